use Rattle.std.proofs.Common.{◌≡◌, ◌+◌, rules, true, length, ◌∙◌}
use Rattle.rc_work.proofs.Imports.{unwrap_or, err_from_is_err_and, word_texts, op_unplaced, op_unread, op_given, shape_place}
use Rattle.rc_work.proofs.shapes.add_op.Goals as goal

pub returns-in_err-thread-clause-taken : goal.returns-in_err-thread-clause-taken
returns-in_err-thread-clause-taken c =
    let p = err_from_is_err_and c.from_residual.result c.from_residual.ensures.1 in
    rw (p.1, p.2)
    (op_unplaced c.args.spec.now c.args.read.now c.args.op c.args.thread.now (word_texts c.args.words.now) c.is_full.result c.is_full.ensures
    c.in_err-thread.field-0.0 c.in_err-thread.ensures.gives)

pub returns-in_err-call-clause-taken : goal.returns-in_err-call-clause-taken
returns-in_err-call-clause-taken c =
    let p = err_from_is_err_and c.from_residual-in_err-call.result c.from_residual-in_err-call.ensures.1 in
    let number : length c.list-2.result.now + c.unwrap_or.result
    ≡ length c.args.spec.now.ops + unwrap_or (shape_place c.args.read.now.shapes c.args.op) (length c.args.read.now.shapes) = search rules in
    rw (p.1, p.2)
    (op_unread c.args.spec.now c.args.read.now c.args.op c.args.thread.now (word_texts c.args.words.now) c.is_full.result c.is_full.ensures
    c.in_ok-thread.thread _ c.in_ok-thread.ensures.gives number c.in_err-call.field-0.0 c.in_err-call.ensures)

pub returns-clause-taken : goal.returns-clause-taken
returns-clause-taken c =
    let number : length c.list-2.result.now + c.unwrap_or.result
    ≡ length c.args.spec.now.ops + unwrap_or (shape_place c.args.read.now.shapes c.args.op) (length c.args.read.now.shapes) = search rules in
    op_given c.args.spec.now c.args.read.now c.args.op c.args.thread.now (word_texts c.args.words.now) c.is_full.result c.is_full.ensures
    c.in_ok-thread.thread _ c.in_ok-thread.ensures.gives number c.in_ok-call.call true c.in_ok-call.ensures (search rules)
    ∙ search rules
