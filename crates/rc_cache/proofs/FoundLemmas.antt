-- What is found in a cache.
use Rattle.std.specs.Prelude.{◌≡◌, List, Option, Some, IfSome}
use Rattle.std.proofs.Common.{subst}
use Rattle.rc_spec.specs.declared.items.Op.{Op}
use Rattle.rc_spec.specs.declared.spec.Spec.{Spec}
use Rattle.rc_plan.specs.declared.statement.Statement.{Statement}
use Rattle.rc_cache.specs.Apart.{HaveOneShape, IsPlannedFor}
use Rattle.rc_cache.specs.ApartLaws.{plans_are_apart}

-- a plan that is kept for an operation is one for each that asks alike
pub kept_for : (base : Option Spec) (spec : Spec) (op other : Op) (plan : List Statement) → base ≡ Some spec
    → IfSome base (λ s. IsPlannedFor s op plan) → HaveOneShape op other → IsPlannedFor spec other plan
kept_for base spec op other plan same kept one =
    plans_are_apart spec spec.ops op other plan one (subst (λ (b : Option Spec). IfSome b (λ s. IsPlannedFor s op plan)) same kept)
