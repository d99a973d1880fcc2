use Rattle.std.proofs.Common.{◌≡◌, ◌<◌, ℕ, List, length}
use Rattle.rc_mutate.proofs.Imports.{Spec, op_at, Statement, plan_at, IsPlanned}
use Rattle.rc_mutate.proofs.operations.plan_all.Given as goal

-- the first operations have their plans
pub record HasPlans (spec : Spec) (first : ℕ) (plans : List (List Statement)) : Type 0 where
  pub count : length plans ≡ first
  pub each : (op : ℕ) → op < first → IsPlanned spec (op_at spec op) (plan_at plans op)

abbrev pub invariant-loop-op : goal.invariant-loop-op
invariant-loop-op l = HasPlans l.accepted l.op l.plans.items
