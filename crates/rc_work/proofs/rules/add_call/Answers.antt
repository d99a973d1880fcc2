use Rattle.std.proofs.Common.{◌≡◌, ◌<◌, get_or, length, List, rules, true, false, Some, sym, ap, ◌∙◌}
use Rattle.rc_work.proofs.Imports.{Draft, Op, err_from_is_err_and, word_texts, call_unplaced, call_unread, call_given, op_number, ok}
use Rattle.rc_work.proofs.rules.add_call.Goals as goal

pub returns-in_err-thread : goal.returns-in_err-thread
returns-in_err-thread c =
    let p = err_from_is_err_and c.from_residual.result c.from_residual.ensures.1 in
    rw (p.1, p.2)
    (call_unplaced c.args.spec.now c.args.draft.now c.args.thread.now c.args.op.now (word_texts c.args.words.now) c.is_full.result c.is_full.ensures
    c.in_err-thread.field-0.0 c.in_err-thread.ensures.gives)

pub returns-in_err-call : goal.returns-in_err-call
returns-in_err-call c =
    let p = err_from_is_err_and c.from_residual-in_err-call.result c.from_residual-in_err-call.ensures.1 in
    let named : op_number c.args.spec.now c.args.op.now ≡ Some c.in-Some.number = search rules in
    let below : c.in-Some.number < length c.args.spec.now.ops = search rules in
    let at = c.index-list-number.is ∙ ap (λ (ops : List Op). get_or ops c.in-Some.number c.index-list-number.result) c.list-2.ensures in
    rw (p.1, p.2)
    (call_unread c.args.spec.now c.args.draft.now c.args.thread.now c.args.op.now (word_texts c.args.words.now) c.is_full.result c.is_full.ensures
    c.in_ok-thread.thread c.in-Some.number c.index-list-number.result c.in_ok-thread.ensures.gives named below at
    c.in_err-call.field-0.0 c.in_err-call.ensures)

pub returns-then-is_others : goal.returns-then-is_others
returns-then-is_others c =
    let named : op_number c.args.spec.now c.args.op.now ≡ Some c.in-Some.number = search rules in
    let below : c.in-Some.number < length c.args.spec.now.ops = search rules in
    let at = c.index-list-number.is ∙ ap (λ (ops : List Op). get_or ops c.in-Some.number c.index-list-number.result) c.list-2.ensures in
    call_given c.args.spec.now c.args.draft.now c.args.thread.now c.args.op.now (word_texts c.args.words.now) c.is_full.result c.is_full.ensures
    c.in_ok-thread.thread c.in-Some.number c.index-list-number.result c.in_ok-thread.ensures.gives named below at
    c.in_ok-call.call true c.in_ok-call.ensures (sym c.if-is_others.true ∙ c.is_others.ensures)

pub returns : goal.returns
returns c =
    let named : op_number c.args.spec.now c.args.op.now ≡ Some c.in-Some.number = search rules in
    let below : c.in-Some.number < length c.args.spec.now.ops = search rules in
    let at = c.index-list-number.is ∙ ap (λ (ops : List Op). get_or ops c.in-Some.number c.index-list-number.result) c.list-2.ensures in
    call_given c.args.spec.now c.args.draft.now c.args.thread.now c.args.op.now (word_texts c.args.words.now) c.is_full.result c.is_full.ensures
    c.in_ok-thread.thread c.in-Some.number c.index-list-number.result c.in_ok-thread.ensures.gives named below at
    c.in_ok-call.call false c.in_ok-call.ensures (sym c.if-is_others.false ∙ c.is_others.ensures)
    ∙ ap (λ (d : Draft). ok d) (sym c.in_ok-push_call.ensures)
