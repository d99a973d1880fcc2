use Rattle.std.proofs.Common.{◌<◌, subst, arith}
use Rattle.rc_place.proofs.Imports.{err_from_is_err_and, IsKept, count_of, item_checks, step, step_checks, each_listed, first_listed, judged_err}
use Rattle.rc_place.proofs.judging.judge_items.Goals as goal

pub returns-in_err-judge_item : goal.returns-in_err-judge_item
returns-in_err-judge_item c =
    let P = IsKept c.args.spec.now in
    let s = step c.args.kind c.args.rules.now in
    let count = count_of c.args.spec.now c.args.kind in
    let below : c.loop-number.number < count = subst (λ k. c.loop-number.number < k) c.count_of-number-end.ensures c.loop-number-test.true in
    let answer = err_from_is_err_and c.from_residual.result c.from_residual.ensures.1 in
    judged_err P (step_checks c.args.spec.now s) c.from_residual.result answer.0 c.in_err-judge_item.field-0.0 answer.1 answer.2
    (first_listed P (item_checks s) count c.loop-number.number c.in_err-judge_item.field-0.0 below c.loop-number.invariant c.in_err-judge_item.ensures)

pub returns : goal.returns
returns c =
    each_listed (IsKept c.args.spec.now) (item_checks (step c.args.kind c.args.rules.now)) (count_of c.args.spec.now c.args.kind)
    (λ n l. c.loop-number.invariant n (omega (arith, l, c.loop-number-test.false, c.count_of-number-end.ensures)))
