-- Laws of planned plans, each named by the contract of a function.
use Rattle.std.specs.Prelude.{◌≡◌, ℕ, List, length}
use Rattle.rc_query.specs.Imports.{Within, Op, Spec, IsSealed, IsAdequate, all_columns, IsInRange, IsOpAmong, IsPlaced, Statement, AreKnown, KeepsPlanRules, IsGoodRoute}
use Rattle.rc_query.specs.Planned.{Routing, planned_by, IsPlanned}

-- each need among the columns gets a good route
abbrev pub GivesGoodRoutes : Spec → Routing → Type 0
GivesGoodRoutes spec route = (pattern need : List ℕ) → Within need (all_columns spec) → IsGoodRoute spec need (route pattern need)

-- the plan's numbers are the specification's, and it keeps K1 to K7 for the operation
pub record IsAcceptedFor (spec : Spec) (op : Op) (plan : List Statement) : Type 0 where
  pub known : AreKnown spec plan
  pub rules : KeepsPlanRules spec op plan

-- Over any good routes the plan of an operation is accepted.
abbrev pub PlansOverGoodRoutesAreAccepted : Type 0
PlansOverGoodRoutesAreAccepted = (spec : Spec) → IsInRange spec → IsAdequate spec → IsPlaced spec → (route : Routing) → GivesGoodRoutes spec route
    → (op : Op) → IsOpAmong (length spec.columns) op → IsAcceptedFor spec op (planned_by spec route op)

-- Where the specification is accepted, each planned plan is accepted for its operation, also for one that isn't the specification's own.
abbrev pub PlannedPlansAreAccepted : Type 0
PlannedPlansAreAccepted = (spec : Spec) → IsSealed spec → (op : Op) → IsOpAmong (length spec.columns) op → (plan : List Statement) → IsPlanned spec op plan → IsAcceptedFor spec op plan

-- Each operation of an accepted specification has a planned plan, and no other.
abbrev pub HasPlannedPlan : Type 0
HasPlannedPlan = (spec : Spec) → IsSealed spec → (op : Op) → (plan : List Statement) × IsPlanned spec op plan

abbrev pub OnePlannedPlan : Type 0
OnePlannedPlan = (spec : Spec) → IsSealed spec → (op : Op) (a b : List Statement) → IsPlanned spec op a → IsPlanned spec op b → a ≡ b
