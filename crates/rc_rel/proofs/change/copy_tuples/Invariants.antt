use Rattle.std.proofs.Common.{◌≡◌, take}
use Rattle.rc_rel.proofs.change.copy_tuples.Given as goal

abbrev pub invariant-loop-tuple : goal.invariant-loop-tuple
invariant-loop-tuple l = l.copy.items ≡ take l.tuple-index l.tuples
