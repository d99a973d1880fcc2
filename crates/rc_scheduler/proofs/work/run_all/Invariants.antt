use Rattle.std.proofs.Common.{◌≡◌}
use Rattle.rc_scheduler.proofs.work.run_all.Given as goal

abbrev pub invariant-loop : goal.invariant-loop
invariant-loop g l = l.session.store ≡ l.fn.session.store
