use Rattle.std.proofs.Common.{◌≡◌}
use Rattle.rc_multi.proofs.Imports.{flat_map, range_with_len, with_plans, class_locks}
use Rattle.rc_multi.proofs.locks.group_locks.Given as goal

abbrev pub invariant-loop-class : goal.invariant-loop-class
invariant-loop-class l = l.locks.items ≡ flat_map (class_locks l.compiled.spec (with_plans l.compiled.plans l.calls)) (range_with_len 0 l.class)
