use Rattle.std.proofs.Common.{◌<◌, ap, subst, ◌∙◌}
use Rattle.std.specs.Prelude.{◌↔◌}
use Rattle.rc_edges.proofs.Imports.{IsTrue, list_any, Rows, current, is_filled, has_row-items}
use Rattle.std.specs.FinMap as fin
use Rattle.rc_edges.proofs.list_map.ListMapEdgeMap.has_row.Goals as goal

pub returns : goal.returns
returns c =
    let e = c.has_filled.ensures ∙ ap (list_any is_filled) c.deref.ensures.value in
    subst (λ (m : Rows). IsTrue c.has_filled.result ↔ (0 < fin.len (current m))) c.self.view_is
    (has_row-items c.self.inside.items.items c.self.invariant c.has_filled.result e)
