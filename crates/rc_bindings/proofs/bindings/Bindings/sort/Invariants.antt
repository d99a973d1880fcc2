use Rattle.std.proofs.Common.{◌≡◌, take}
use Rattle.rc_bindings.specs.Bindings.{with_tuples}
use Rattle.rc_bindings.proofs.bindings.Bindings.sort.Given as goal

abbrev pub invariant-loop-tuple : goal.invariant-loop-tuple
invariant-loop-tuple l = l.self ≡ with_tuples l.fn.self (take l.tuple-index l.tuple-items)
