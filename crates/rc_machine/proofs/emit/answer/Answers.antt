use Rattle.std.proofs.Common.{◌≡◌, length, map, sym, ap, ◌∙◌, arith}
use Rattle.rc_machine.proofs.Imports.{length-map, gather, gather-rising, number_lists_order, pick, Rows, Many, at_most, row_cmp, if_ok, answer}
use Rattle.rc_machine.proofs.EmitLemmas.{few_rows, many_rows, none_outside}
use Rattle.rc_machine.proofs.emit.answer.Goals as goal
use Rattle.rc_machine.proofs.emit.answer.Goals.{After-len-count}

-- rows that rise are all distinct
distinct : (c : After-len-count) → gather row_cmp (map (pick c.args.outs.now) c.args.bindings.now.tuples) ≡ map (pick c.args.outs.now) c.args.bindings.now.tuples
distinct c = gather-rising row_cmp number_lists_order (map (pick c.args.outs.now) c.args.bindings.now.tuples) (c.rows_rise.ensures.0 c.if-not-rows_rise.false)

pub returns-then-not-rows_rise : goal.returns-then-not-rows_rise
returns-then-not-rows_rise c =
    if_ok c.answer.result (λ reply h. h ∙ ap (answer c.args.most c.args.outs.now) (none_outside c.deref.result.now ∙ c.deref.ensures.value ∙ c.in_ok-tuples.ensures)) c.answer.ensures

pub returns-then-count-most : goal.returns-then-count-most
returns-then-count-most c =
    let rows = map (pick c.args.outs.now) c.args.bindings.now.tuples in
    let count : length rows ≡ length c.args.bindings.now.tuples = length-map c.args.bindings.now.tuples (pick c.args.outs.now) in
    let len = c.len-count.ensures in
    let l = c.if-count-most.true in
    ap Many (c.len-count.ensures ∙ sym count)
    ∙ sym (ap (at_most c.args.most) (distinct (goal.at.returns-then-count-most c).After-len-count) ∙ many_rows c.args.most rows (omega (arith, count, len, l)))

pub returns : goal.returns
returns c =
    let rows = map (pick c.args.outs.now) c.args.bindings.now.tuples in
    let count : length rows ≡ length c.args.bindings.now.tuples = length-map c.args.bindings.now.tuples (pick c.args.outs.now) in
    let len = c.len-count.ensures in
    let l = c.if-count-most.false in
    ap Rows c.in_ok-rows.ensures ∙ sym (ap (at_most c.args.most) (distinct (goal.at.returns c).After-len-count) ∙ few_rows c.args.most rows (omega (arith, count, len, l)))
