use Rattle.std.proofs.Common.{◌≡◌, ◌+◌, ◌++◌, ℕ, length, subst, sym, arith}
use Rattle.std.proofs.lemmas.List.{length-append}
use Rattle.rc_spec.specs.declared.spec.Spec.{Spec}
use Rattle.rc_cache.specs.Apart.{IsPlannedFor}
use Rattle.rc_cache.specs.Extended.{HavePlans}
use Rattle.rc_cache.specs.ExtendedLaws.{further_more, own_plans}
use Rattle.rc_cache.proofs.compiling.plans_by.Goals as goal

pub loop-op-init : goal.loop-op-init
loop-op-init g c =
    let spec : Spec = c.args.base.now in
    let none : length spec.ops ≡ length spec.ops + 0 = omega arith in
    subst (λ (n : ℕ). HavePlans spec (spec.ops ++ c.args.ops.now) n c.in_ok-plans.plans.items) none
    (own_plans spec c.args.ops.now c.in_ok-plans.plans.items c.in_ok-plans.ensures.planned c.in_ok-plans.ensures.accepted)

pub loop-op-preserved : goal.loop-op-preserved
loop-op-preserved g c =
    let spec : Spec = c.args.base.now in
    let plan : IsPlannedFor spec c.op-item.result c.in_ok-copy.field-0 =
    subst (IsPlannedFor spec c.op-item.result) (sym c.in_ok-copy.ensures)
    (subst (λ (s : Spec). IsPlannedFor s c.op-item.result c.in_ok-plan_for.field-0.now) c.requires.base c.in_ok-plan_for.ensures) in
    further_more spec c.args.ops.now c.loop-op.op-index c.op-item.result c.loop-op.plans.items c.push.new.self.items c.in_ok-copy.field-0 c.loop-op-test.true c.op-item.is
    plan c.in_ok-push.ensures.items c.loop-op.invariant

pub returns : goal.returns
returns g c =
    let spec : Spec = c.args.base.now in
    let all : length (spec.ops ++ c.args.ops.now) ≡ length spec.ops + length c.args.ops.now = length-append spec.ops c.args.ops.now in
    let end : length spec.ops + c.loop-op.op-index ≡ length (spec.ops ++ c.args.ops.now) = omega (arith, all, c.loop-op-test.false, c.loop-op.auto.op-index-end) in
    subst (λ (n : ℕ). HavePlans spec (spec.ops ++ c.args.ops.now) n c.loop-op.plans.items) end c.loop-op.invariant
