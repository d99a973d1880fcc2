use Rattle.std.proofs.Common.{◌≡◌, take, true}
use Rattle.rc_plan.proofs.Imports.{list_all, is_lock}
use Rattle.rc_plan.proofs.access.first_locks.Given as goal

abbrev pub invariant-loop-at : goal.invariant-loop-at
invariant-loop-at l = list_all is_lock (take l.at l.plan) ≡ true
