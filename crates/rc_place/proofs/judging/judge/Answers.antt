use Rattle.rc_place.proofs.Imports.{sym, subst, err_from_is_err_and, AreOfKind, IsKept, Step, checks, step_checks, steps, steps_of_kind, EachHolds, IsFirstFailing, all_more, first_among, judged_err}
use Rattle.rc_place.proofs.JudgeLemmas.{at_all, no_step, row_is}
use Rattle.rc_place.proofs.judging.judge.Goals as goal

pub judge_items-requires-clause-of_kind : goal.judge_items-requires-clause-of_kind
judge_items-requires-clause-of_kind c =
    subst AreOfKind (row_is c.steps-steps.result c.loop-step.step-index c.steps-steps.ensures c.loop-step-test.true)
    (at_all AreOfKind steps c.loop-step.step-index no_step steps_of_kind c.loop-step-test.true)

pub returns-in_err-judge_items : goal.returns-in_err-judge_items
returns-in_err-judge_items c =
    let spec = c.args.spec.now in
    let i = c.loop-step.step-index in
    let answer = err_from_is_err_and c.from_residual.result c.from_residual.ensures.1 in
    let y = c.in_err-judge_items.field-0.0 in
    judged_err (IsKept spec) (checks spec) c.from_residual.result answer.0 y answer.1 answer.2
    (first_among (IsKept spec) (step_checks spec) steps i no_step c.loop-step-test.true y c.loop-step.invariant
    (subst (λ (s : Step). IsFirstFailing (IsKept spec) (step_checks spec s) y) (sym (row_is c.steps-steps.result i c.steps-steps.ensures c.loop-step-test.true))
    c.in_err-judge_items.ensures))

pub loop-step-preserved : goal.loop-step-preserved
loop-step-preserved c =
    let spec = c.args.spec.now in
    let i = c.loop-step.step-index in
    all_more (IsKept spec) (step_checks spec) steps i no_step c.loop-step-test.true c.loop-step.invariant
    (subst (λ (s : Step). EachHolds (IsKept spec) (step_checks spec s)) (sym (row_is c.steps-steps.result i c.steps-steps.ensures c.loop-step-test.true))
    c.in_ok-judge_items.ensures)
