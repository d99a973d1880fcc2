use Rattle.std.proofs.Common.{◌≡◌, ◌<◌, ◌∙◌, ◌+◌, ◌++◌, ◌∷◌, [], List, length, ap, sym, subst, arith}
use Rattle.rc_mutate.proofs.Imports.{length-append, Spec, op_at, Statement, plan_at, IsPlanned, planned_accepted}
use Rattle.rc_mutate.proofs.WriteLemmas.{plan_more}
use Rattle.rc_mutate.proofs.operations.plan_all.Goals as goal

pub loop-op-init : goal.loop-op-init
loop-op-init c = record { count = ap length c.new-plans.ensures.items; each = λ op l. absurd (omega arith) }

pub plan_op-requires : goal.plan_op-requires
plan_op-requires c = subst (λ (s : Spec). c.loop-op.op < length s.ops) c.spec.ensures.value (omega (arith, c.loop-op-test.true, ap length c.list-ops.ensures))

pub loop-op-preserved : goal.loop-op-preserved
loop-op-preserved c =
    let spec = c.args.accepted.now in
    let plan : List Statement = c.in_ok-plan_op.field-0 in
    let more : c.push.new.self.items ≡ c.loop-op.plans.items ++ plan ∷ [] = c.in_ok-push.ensures.items in
    record {
      count = ap length more ∙ length-append c.loop-op.plans.items (plan ∷ []) ∙ ap (λ z. z + 1) c.loop-op.invariant.count;
      each = λ op l. subst (λ (z : List (List Statement)). IsPlanned spec (op_at spec op) (plan_at z op)) (sym more)
          (plan_more (λ k p. IsPlanned spec (op_at spec k) p) c.loop-op.plans.items plan c.loop-op.op c.loop-op.invariant.count c.loop-op.invariant.each c.in_ok-plan_op.ensures.planned op l);
    }

pub returns-clause-planned : goal.returns-clause-planned
returns-clause-planned c = λ op l.
    c.loop-op.invariant.each op (let all : length c.list-ops.result.now ≡ length c.args.accepted.now.ops = ap length c.list-ops.ensures ∙ ap (λ (s : Spec). length s.ops) c.spec.ensures.value in omega (arith, l, all, c.loop-op-test.false))

pub returns-clause-accepted : goal.returns-clause-accepted
returns-clause-accepted c = record {
  count = (let all : length c.list-ops.result.now ≡ length c.args.accepted.now.ops = ap length c.list-ops.ensures ∙ ap (λ (s : Spec). length s.ops) c.spec.ensures.value in
      let made : length c.loop-op.plans.items ≡ c.loop-op.op = c.loop-op.invariant.count in omega (arith, all, c.loop-op-test.false));
  each = λ op l. planned_accepted c.args.accepted.now c.spec.ensures.sealed op l (plan_at c.loop-op.plans.items op) (returns-clause-planned c op l);
}
