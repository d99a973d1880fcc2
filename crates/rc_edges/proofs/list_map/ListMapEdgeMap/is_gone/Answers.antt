use Rattle.std.proofs.Common.{◌≡◌, length, sym, ap, ◌∙◌}
use Rattle.std.specs.Prelude.{◌==◌}
use Rattle.rc_edges.proofs.Imports.{Items, gone_rows}
use Rattle.rc_edges.proofs.list_map.ListMapEdgeMap.is_gone.Goals as goal

pub returns : goal.returns
returns c =
    let items : Items = c.self.inside.items.items in
    let e : c.is_empty.result ≡ (length items == 0) = c.is_empty.ensures ∙ ap (λ (z : Items). length z == 0) c.as_slice.ensures.value in
    let gone = gone_rows c.args.self.now items c.self.view_is in
    (λ h. gone.0 (sym e ∙ h), λ h. e ∙ gone.1 h)
