-- Plans of a specification's own operations and of further ones.
use Rattle.std.specs.Prelude.{◌≡◌, ℕ, ◌<◌, ◌++◌, List, length, get_or}
use Rattle.rc_spec.specs.declared.items.Op.{Op}
use Rattle.rc_spec.specs.declared.spec.Spec.{Spec}
use Rattle.rc_spec.specs.Placement.{no_op}
use Rattle.rc_plan.specs.declared.statement.Statement.{Statement}
use Rattle.rc_plan.specs.Compiled.{plan_at}
use Rattle.rc_cache.specs.Apart.{IsPlannedFor}

-- of some operations the first have their plans over the specification
pub record HavePlans (spec : Spec) (ops : List Op) (first : ℕ) (plans : List (List Statement)) : Type 0 where
  pub count : length plans ≡ first
  pub each : (n : ℕ) → n < first → IsPlannedFor spec (get_or ops n no_op) (plan_at plans n)

-- all have, the specification's own and then the further ones
abbrev pub HaveAllPlans : Spec → List Op → List (List Statement) → Type 0
HaveAllPlans spec ops plans = HavePlans spec (spec.ops ++ ops) (length (spec.ops ++ ops)) plans
