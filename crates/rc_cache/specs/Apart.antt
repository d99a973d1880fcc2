-- Plans don't depend on other operations.
use Rattle.std.specs.Prelude.{◌≡◌, List}
use Rattle.rc_spec.specs.declared.items.Op.{Op}
use Rattle.rc_spec.specs.declared.spec.Spec.{Spec}
use Rattle.rc_plan.specs.declared.statement.Statement.{Statement}
use Rattle.rc_query.specs.Laws.{IsAcceptedFor}
use Rattle.rc_query.specs.Planned.{IsPlanned}

-- the plan is the planned one of the operation, and accepted
pub record IsPlannedFor (spec : Spec) (op : Op) (plan : List Statement) : Type 0 where
  pub planned : IsPlanned spec op plan
  pub accepted : IsAcceptedFor spec op plan

-- the two ask alike: kind and all columns are equal, in written order
pub record HaveOneShape (op other : Op) : Type 0 where
  pub pattern : op.pattern ≡ other.pattern
  pub kind : op.kind ≡ other.kind

-- A plan that is planned and accepted for an operation is so for each that asks alike, and whatever operations the specification has.
abbrev pub PlansAreApart : Type 0
PlansAreApart = (spec : Spec) (ops : List Op) (op other : Op) (plan : List Statement) → HaveOneShape op other
    → IsPlannedFor spec op plan → IsPlannedFor (record spec { ops = ops }) other plan
