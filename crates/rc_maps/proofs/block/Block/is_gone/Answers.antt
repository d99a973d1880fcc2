use Rattle.std.proofs.Common.{◌≡◌, length, sym, ap, ◌∙◌}
use Rattle.std.specs.Prelude.{◌==◌}
use Rattle.rc_maps.proofs.Imports.{length-map, gone_rows, item_of, items_of}
use Rattle.rc_maps.proofs.block.Block.is_gone.Goals as goal

pub returns : goal.returns
returns g c =
    let rows = c.self.inside.rows.items in
    let e : c.is_empty.result ≡ (length (items_of rows) == 0) =
    c.is_empty.ensures ∙ ap (λ z. length z == 0) c.as_slice.ensures.value ∙ ap (λ k. k == 0) (sym (length-map rows item_of)) in
    let gone = gone_rows c.args.self.now (items_of rows) c.self.view_is in
    (λ h. gone.0 (sym e ∙ h), λ h. e ∙ gone.1 h)
