use Rattle.std.proofs.Common.{ℕ, List, [], ◌∷◌, length, refl, ap, sym, ◌∙◌, subst, arith}
use Rattle.rc_handplan.proofs.Imports.{length-append, IsPlanOf, Statement, plan_for, IsChosenBy, written_is_plan}
use Rattle.rc_handplan.proofs.CompilingLemmas.{plan_too}
use Rattle.rc_handplan.proofs.compiling.chosen_plans.Goals as goal

pub chosen_plan-requires-clause-written : goal.chosen_plan-requires-clause-written
chosen_plan-requires-clause-written c plan e =
    written_is_plan c.args.accepted.now c.args.hands.now.items c.loop-op.op plan c.requires.hands c.requires.kept
    (sym (c.loop-op.invariant.left c.loop-op.op (omega arith)) ∙ e)

pub loop-op-preserved : goal.loop-op-preserved
loop-op-preserved c =
    let spec = c.args.accepted.now in
    let hands = c.args.hands.now.items in
    let plan = c.in_ok-chosen_plan.field-0 in
    let here = subst (λ written. IsChosenBy spec c.loop-op.op written plan) (c.loop-op.invariant.left c.loop-op.op (omega arith))
    c.in_ok-chosen_plan.ensures.chosen in
    record {
      count = omega (arith, ap length c.in_ok-push.ensures.items, length-append c.loop-op.plans.items (plan ∷ []), c.loop-op.invariant.count);
      chosen = plan_too (λ (n : ℕ) (p : List Statement). IsChosenBy spec n (plan_for hands n) p) c.loop-op.plans.items
          c.push.new.self.items c.loop-op.op plan c.loop-op.invariant.count c.in_ok-push.ensures.items c.loop-op.invariant.chosen here;
      accepted = plan_too (IsPlanOf spec) c.loop-op.plans.items c.push.new.self.items c.loop-op.op plan
          c.loop-op.invariant.count c.in_ok-push.ensures.items c.loop-op.invariant.accepted c.in_ok-chosen_plan.ensures.accepted;
      left = λ n le. c.in_ok-chosen_plan.ensures.others refl n (λ e. absurd (omega arith)) ∙ c.loop-op.invariant.left n (omega arith);
    }
