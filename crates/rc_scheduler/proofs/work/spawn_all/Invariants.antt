use Rattle.std.proofs.Common.{◌≡◌}
use Rattle.rc_scheduler.proofs.work.spawn_all.Given as goal

abbrev pub invariant-loop-pid : goal.invariant-loop-pid
invariant-loop-pid g l = l.session.store ≡ l.fn.session.store
