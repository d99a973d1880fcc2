use Rattle.std.proofs.Common.{ap, subst, ◌∙◌}
use Rattle.std.specs.FinMap as fin
use Rattle.rc_edges.proofs.Imports.{HasAsMany, IsAt, IsGap, get_at, get_none, set_at, writes_at}
use Rattle.rc_edges.proofs.list_map.ListMapEdgeMap.put_back.Goals as goal
use Rattle.rc_edges.proofs.list_map.ListMapEdgeMap.put_back.Goals.{After-index_mut-item}

pub unreachable-requires : goal.unreachable-requires
unreachable-requires c =
    subst (λ z. HasAsMany z c.args.extra.now)
    (get_none c.args.self.now c.args.key.now c.self.inside.items.items c.in_default.field-0 c.self.view_is c.self.invariant
    (subst (λ z. IsGap c.args.key.now z c.in_default.field-0) c.deref.ensures.value c.in_default.ensures.gap)) c.requires

-- the item found is the key's among the container's items
is_at : (c : After-index_mut-item) → IsAt c.args.key.now c.self.inside.items.items c.in-Ok.at
is_at c = subst (λ z. IsAt c.args.key.now z c.in-Ok.at) c.deref.ensures.value c.in-Ok.ensures.found

pub put_back-requires : goal.put_back-requires
put_back-requires c =
    subst (λ z. HasAsMany z c.args.extra.now)
    (get_at c.args.self.now c.args.key.now c.self.inside.items.items c.in-Ok.at c.index_mut-item.result.now
    c.self.view_is (is_at (goal.at.put_back-requires c).After-index_mut-item) c.index_mut-item.ensures.value) c.requires

pub invariant_of-self : goal.invariant_of-self
invariant_of-self c =
    (writes_at c.args.key.now c.self.inside.items.items c.in-Ok.at c.index_mut-item.result.now c.put_back.new.self c.self.invariant
    (is_at (goal.at.invariant_of-self c).After-index_mut-item) c.index_mut-item.ensures.value).keyed

pub returns-clause-now : goal.returns-clause-now
returns-clause-now c =
    set_at c.args.self.now c.args.key.now c.self.inside.items.items c.in-Ok.at c.index_mut-item.result.now c.put_back.new.self
    c.self.view_is c.self.invariant
    (is_at (goal.at.returns-clause-now c).After-index_mut-item) c.index_mut-item.ensures.value
    ∙ ap (fin.insert c.args.self.now c.args.key.now) c.put_back.ensures
