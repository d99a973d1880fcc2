use Rattle.std.proofs.Common.{◌∙◌, Some, ap, refl}
use Rattle.rc_spec.specs.declared.spec.Spec.{Spec}
use Rattle.rc_cache.proofs.FoundLemmas.{kept_for}
use Rattle.rc_cache.proofs.cache.PlanCache.find.Goals as goal

pub returns-then-have_one_shape : goal.returns-then-have_one_shape
returns-then-have_one_shape g c =
    kept_for g.B.Plans.base c.args.self.now c.in-Some.cached.now.op c.args.op.now c.in-Some.cached.now.plan
    (c.self.invariant ∙ ap (λ (s : Spec). Some s) c.self.view_is) c.in-Some.ensures.steps.2.2 (c.if-have_one_shape.ensures.0 refl)
