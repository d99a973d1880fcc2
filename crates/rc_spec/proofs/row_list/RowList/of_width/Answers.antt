use Rattle.std.proofs.Common.{ap, length, subst, sym, ◌∙◌, arith}
use Rattle.rc_spec.proofs.Imports.{even_ends, AreEnds, rows_from, AreEnds-even, rows_from-even}
use Rattle.rc_spec.proofs.row_list.RowList.of_width.Goals as goal

pub invariant_of-result : goal.invariant_of-result
invariant_of-result c =
    let count = c.requires in
    subst (λ l. AreEnds 0 l (length c.from_vec.result.items)) (sym c.of_width.ensures)
    (subst (AreEnds 0 (even_ends 0 c.args.width c.args.rows)) (omega (arith, count) ∙ sym (ap length c.from_vec.ensures.items))
    (AreEnds-even 0 c.args.width c.args.rows))

pub returns : goal.returns
returns c =
    ap (rows_from 0 c.of_width.result) c.from_vec.ensures.items
    ∙ ap (λ l. rows_from 0 l c.args.values.items) c.of_width.ensures
    ∙ rows_from-even 0 c.args.width c.args.rows c.args.values.items
