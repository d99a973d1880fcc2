use Rattle.std.proofs.Common.{◌≡◌, ℕ, ◌<◌}
use Rattle.rc_check.proofs.Imports.{EachHolds, op_at, IsKeptInPlan, checks_at, progress_at, sets_of}
use Rattle.rc_check.proofs.check.check_plan.Given as goal

abbrev pub invariant-loop-at : goal.invariant-loop-at
invariant-loop-at l = record {
  known : l.known ≡ sets_of (progress_at l.accepted (op_at l.accepted l.op) l.plan l.at);
  kept : (n : ℕ) → n < l.at → EachHolds (IsKeptInPlan l.accepted (op_at l.accepted l.op) l.plan) (checks_at n);
}
