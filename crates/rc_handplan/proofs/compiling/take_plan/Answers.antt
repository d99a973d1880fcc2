use Rattle.std.proofs.Common.{◌≡◌, Some, sym, refl, ap, ◌∙◌}
use Rattle.rc_handplan.proofs.Imports.{position, is_of}
use Rattle.rc_handplan.proofs.CompilingLemmas.{plan_there, op_there, plan_nowhere, others_stay}
use Rattle.rc_handplan.proofs.compiling.take_plan.Goals.{In_ok-at}
use Rattle.rc_handplan.proofs.compiling.take_plan.Goals as goal

pub returns-in_err-at-clause-plan : goal.returns-in_err-at-clause-plan
returns-in_err-at-clause-plan c =
    c.from_residual.ensures
    ∙ sym (plan_nowhere c.args.hands.now.items c.args.op
    (ap (position (is_of c.args.op)) (sym c.deref.ensures.value) ∙ sym c.place_of.ensures ∙ c.in_err-at.was))

-- where the plan stands
found : (c : In_ok-at) → position (is_of c.args.op) c.args.hands.now.items ≡ Some c.in_ok-at.at
found c = ap (position (is_of c.args.op)) (sym c.deref.ensures.value) ∙ sym c.place_of.ensures ∙ c.in_ok-at.was

pub returns-clause-plan : goal.returns-clause-plan
returns-clause-plan c =
    ap (λ plan. Some plan) c.replace.ensures.value
    ∙ sym (plan_there c.args.hands.now.items c.args.op c.in_ok-at.at c.index_mut.result.now
    (found (goal.at.returns-clause-plan c).In_ok-at) c.index_mut.ensures.value)

pub returns-clause-others : goal.returns-clause-others
returns-clause-others c other differs =
    others_stay c.args.hands.now.items c.in_ok-at.at c.index_mut.result.now _ other c.index_mut.ensures.value refl
    (λ e. differs (e ∙ op_there c.args.hands.now.items c.args.op c.in_ok-at.at c.index_mut.result.now
    (found (goal.at.returns-clause-others c).In_ok-at) c.index_mut.ensures.value))
