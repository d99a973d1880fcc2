use Rattle.std.proofs.Common.{◌≡◌, take, true}
use Rattle.rc_tuple.proofs.Imports.{list_all, has_pair}
use Rattle.rc_tuple.proofs.tuple.has_pairs.Given as goal

abbrev pub invariant-loop-pair : goal.invariant-loop-pair
invariant-loop-pair l = list_all (has_pair l.pairs) (take l.pair-index l.pattern) ≡ true
