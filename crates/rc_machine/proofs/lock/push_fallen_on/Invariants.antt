use Rattle.std.proofs.Common.{◌≡◌, ◌++◌, map, take}
use Rattle.rc_spec.specs.Stripes.{physical_stripe}
use Rattle.rc_machine.proofs.lock.push_fallen_on.Given as goal

abbrev pub invariant-loop-at : goal.invariant-loop-at
invariant-loop-at l = l.stripes.items ≡ l.fn.stripes.items ++ map (physical_stripe l.compiled.spec l.class) (take l.at l.bindings.tuples)
