use Rattle.std.proofs.Common.{◌∷◌, [], ◌++◌, ap, ◌∙◌}
use Rattle.rc_edges.proofs.Imports.{Values, values_in, rows_pushed}
use Rattle.rc_edges.proofs.list_map.push_rows.Goals as goal

pub loop-item-preserved : goal.loop-item-preserved
loop-item-preserved c =
    rows_pushed c.args.out.now.items c.loop-item.out.items c.push_row.new.out.items c.args.items.now c.loop-item.item-index
    c.item-item.result c.loop-item.invariant
    (c.in_ok-push_row.ensures.ok
    ∙ ap (λ (z : Values). c.loop-item.out.items ++ values_in ((z, c.item-item.result.1) ∷ [])) c.values.ensures)
    c.loop-item-test.true c.item-item.is
