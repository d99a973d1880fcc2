use Rattle.std.proofs.Common.{◌≡◌, ◌++◌, drop, map, take}
use Rattle.rc_spec.specs.Locks.{StripeLock}
use Rattle.rc_multi.proofs.locks.set_mode.Given as goal

abbrev pub invariant-loop-lock : goal.invariant-loop-lock
invariant-loop-lock l = l.locks ≡ map (λ (x : StripeLock). (x.0, l.mode)) (take l.lock-index l.fn.locks) ++ drop l.lock-index l.fn.locks
