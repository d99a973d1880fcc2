use Rattle.std.proofs.Common.{rules, ◌≡◌, ◌<◌, ◌∙◌, length, ap, subst, sym}
use Rattle.rc_spec.specs.declared.items.Op.{Op}
use Rattle.rc_spec.specs.declared.spec.Spec.{Spec}
use Rattle.rc_spec.specs.Acceptance.{IsSealed}
use Rattle.rc_spec.specs.Placement.{op_at}
use Rattle.rc_query.specs.OpLaws.{own_ops}
use Rattle.rc_query.specs.Ops.{MayBePlanned}
use Rattle.rc_tests.proofs.cache_tests.is_planned_once.Goals as goal

-- the first operation may be planned, by whatever is equal to the specification
first_op : (spec base same : Spec) (op : Op) → IsSealed base → 0 < length base.ops → spec ≡ base → op ≡ op_at spec 0 → same ≡ base → MayBePlanned same op
first_op spec base same op sealed some is found at =
    subst (λ (s : Spec). MayBePlanned s op) (sym at)
    (subst (MayBePlanned base) (sym (found ∙ ap (λ (s : Spec). op_at s 0) is)) (own_ops base sealed 0 some))

pub plan_for-requires : goal.plan_for-requires
plan_for-requires g c =
    let some : 0 < length c.args.base.now.ops = search rules in
    first_op c.spec-2.result.now c.args.base.now c.in_ok-alone.alone c.op-op.result.now c.spec.ensures.sealed some c.spec-2.ensures.value c.op-op.ensures.value c.in_ok-alone.ensures

pub plan_for-requires-2 : goal.plan_for-requires-2
plan_for-requires-2 g c =
    let some : 0 < length c.args.base.now.ops = search rules in
    first_op c.spec-2.result.now c.args.base.now c.in_ok-alone.alone c.op-op.result.now c.spec.ensures.sealed some c.spec-2.ensures.value c.op-op.ensures.value c.in_ok-alone.ensures

pub ask_at_once-kept-requires-after_bounds : goal.ask_at_once-kept-requires-after_bounds
ask_at_once-kept-requires-after_bounds g c κs within =
    let some : 0 < length c.args.base.now.ops = search rules in
    first_op c.spec-2.result.now c.args.base.now c.in_ok-shared.shared c.op-op.result.now c.spec.ensures.sealed some c.spec-2.ensures.value c.op-op.ensures.value c.in_ok-shared.ensures
