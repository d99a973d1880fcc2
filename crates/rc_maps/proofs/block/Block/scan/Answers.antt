use Rattle.std.proofs.Common.{◌++◌, sym, ap, ◌∙◌}
use Rattle.rc_maps.proofs.Imports.{Rows, listed, values_in, listed-rows, items_of}
use Rattle.rc_maps.proofs.block.Block.scan.Goals as goal

pub returns-clause-ok : goal.returns-clause-ok
returns-clause-ok g c =
    let old = c.args.out.now.items in
    c.push_rows.ensures ∙ ap (λ z. z ++ values_in (items_of c.deref.result.now)) c.in_ok-reserve.ensures.items
    ∙ ap (λ z. old ++ values_in (items_of z)) c.deref.ensures.value
    ∙ ap (λ z. old ++ z) (sym (listed-rows (items_of c.self.inside.rows.items) c.self.invariant.keyed)
    ∙ ap (λ (z : Rows). listed z) c.self.view_is)
