use Rattle.std.proofs.Common.{◌<◌, arith, ap, subst, ◌∙◌}
use Rattle.std.specs.Prelude.{◌↔◌}
use Rattle.rc_maps.proofs.Imports.{IsTrue, list_any, Rows, current, is_filled, has_row-items, item_of, items_of, list_any-map}
use Rattle.std.specs.FinMap as fin
use Rattle.rc_maps.proofs.block.Block.has_row.Goals as goal

pub has_filled-requires : goal.has_filled-requires
has_filled-requires g c = let narrow = c.self.invariant.narrow in omega arith

pub returns : goal.returns
returns g c =
    let rows = c.self.inside.rows.items in
    let e = c.has_filled.ensures ∙ ap (list_any (λ row. is_filled (item_of row))) c.deref.ensures.value ∙ list_any-map item_of is_filled rows in
    subst (λ (m : Rows). IsTrue c.has_filled.result ↔ (0 < fin.len (current m))) c.self.view_is
    (has_row-items (items_of rows) c.self.invariant.keyed c.has_filled.result e)
