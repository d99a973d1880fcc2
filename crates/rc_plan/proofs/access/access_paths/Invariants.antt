use Rattle.std.proofs.Common.{◌≡◌, length}
use Rattle.rc_plan.proofs.Imports.{op_at, IsPathOf, plan_at, AllBelow}
use Rattle.rc_plan.proofs.access.access_paths.Given as goal

abbrev pub invariant-loop-op : goal.invariant-loop-op
invariant-loop-op l = record {
  room : length l.paths ≡ 64;
  stand : AllBelow (λ op path. IsPathOf l.accepted (op_at l.accepted op) (plan_at l.plans op) path) l.op l.paths;
}
