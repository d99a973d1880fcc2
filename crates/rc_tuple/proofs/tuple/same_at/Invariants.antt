use Rattle.std.proofs.Common.{◌≡◌, drop}
use Rattle.rc_tuple.proofs.Imports.{list_all, zip, same_at}
use Rattle.rc_tuple.proofs.tuple.same_at.Given as goal

abbrev pub invariant-loop-at : goal.invariant-loop-at
invariant-loop-at l = list_all (same_at l.cols) (zip (drop l.at l.pairs) (drop l.at l.others)) ≡ list_all (same_at l.cols) (zip l.pairs l.others)
