use Rattle.std.proofs.Common.{◌++◌, sym, ap, ◌∙◌}
use Rattle.rc_edges.proofs.Imports.{Rows, listed, values_in, listed-rows}
use Rattle.rc_edges.proofs.list_map.ListMapEdgeMap.scan.Goals as goal

pub returns-in-Ok-clause-ok : goal.returns-in-Ok-clause-ok
returns-in-Ok-clause-ok c =
    c.in-Ok.ensures.ok ∙ ap (λ z. c.args.out.now.items ++ values_in z) c.deref.ensures.value
    ∙ ap (λ z. c.args.out.now.items ++ z) (sym (listed-rows c.self.inside.items.items c.self.invariant)
    ∙ ap (λ (z : Rows). listed z) c.self.view_is)
