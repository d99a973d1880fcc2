use Rattle.std.proofs.Common.{sym, ap, ◌∙◌}
use Rattle.std.specs.FinMap as fin
use Rattle.rc_edges.proofs.Imports.{Rows, current, count_in, len-rows}
use Rattle.rc_edges.proofs.list_map.ListMapEdgeMap.len.Goals as goal

pub returns : goal.returns
returns c =
    c.count_rows.ensures ∙ ap count_in c.deref.ensures.value ∙ sym (len-rows c.self.inside.items.items c.self.invariant)
    ∙ ap (λ (z : Rows). fin.len (current z)) c.self.view_is
