-- Accepted specifications with a plan for each operation.
use Rattle.std.specs.Prelude.{◌≡◌, ℕ, ◌<◌, List, [], length, get_or}
use Rattle.rc_plan.specs.Imports.{Spec, IsSealed, op_at}
use Rattle.rc_plan.specs.declared.statement.Statement.{Statement}
use Rattle.rc_plan.specs.PlanRules.{AreKnown, KeepsPlanRules}

-- a specification, and plans by the numbers of its operations
pub record SpecWithPlans : Type 0 where
  pub spec : Spec
  pub plans : List (List Statement)

abbrev pub plan_at : List (List Statement) → ℕ → List Statement
plan_at plans op = get_or plans op []

-- the plan's numbers are the specification's, and it keeps K1 to K7 for the operation
pub record IsPlanOf (spec : Spec) (op : ℕ) (plan : List Statement) : Type 0 where
  pub known : AreKnown spec plan
  pub rules : KeepsPlanRules spec (op_at spec op) plan

-- as many plans as operations, each for its own
pub record ArePlansOf (spec : Spec) (plans : List (List Statement)) : Type 0 where
  pub count : length plans ≡ length spec.ops
  pub each : (op : ℕ) → op < length spec.ops → IsPlanOf spec op (plan_at plans op)

-- an accepted specification, with accepted plans
pub record IsCompiled (spec : Spec) (plans : List (List Statement)) : Type 0 where
  pub sealed : IsSealed spec
  pub planned : ArePlansOf spec plans
