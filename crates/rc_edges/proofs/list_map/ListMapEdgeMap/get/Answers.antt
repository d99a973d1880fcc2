use Rattle.std.proofs.Common.{sym, ap, subst, ◌∙◌}
use Rattle.rc_edges.proofs.Imports.{extra_of, IsAt, IsGap, found_at, found_none}
use Rattle.rc_edges.proofs.list_map.ListMapEdgeMap.get.Goals as goal

pub returns-in-Ok : goal.returns-in-Ok
returns-in-Ok c =
    c.extra.ensures
    ∙ ap extra_of (sym (found_at c.args.self.now c.args.key.now c.self.inside.items.items c.in-Ok.at c.index-item.result.now c.self.view_is
    (subst (λ z. IsAt c.args.key.now z c.in-Ok.at) c.deref.ensures.value c.in-Ok.ensures.found) c.index-item.ensures))

pub returns-in-Err : goal.returns-in-Err
returns-in-Err c =
    ap extra_of (sym (found_none c.args.self.now c.args.key.now c.self.inside.items.items c.in-Err.field-0 c.self.view_is c.self.invariant
    (subst (λ z. IsGap c.args.key.now z c.in-Err.field-0) c.deref.ensures.value c.in-Err.ensures.gap)))
