use Rattle.std.proofs.Common.{◌≡◌, ℕ, List, [], drop}
use Rattle.rc_machine.proofs.DifferLemmas.{is_same_yet}
use Rattle.rc_machine.proofs.differing.differing.Given as goal

abbrev pub invariant-loop-at : goal.invariant-loop-at
invariant-loop-at l = (cols : List ℕ) → is_same_yet cols (drop l.at l.pairs) (drop l.at l.others) l.cols ≡ is_same_yet cols l.pairs l.others []
