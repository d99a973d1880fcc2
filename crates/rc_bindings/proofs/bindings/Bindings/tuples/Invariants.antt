use Rattle.std.proofs.Common.{◌≡◌, take}
use Rattle.rc_bindings.proofs.bindings.Bindings.tuples.Given as goal

abbrev pub invariant-loop-at : goal.invariant-loop-at
invariant-loop-at l = l.tuples.items ≡ take l.at l.self.tuples
