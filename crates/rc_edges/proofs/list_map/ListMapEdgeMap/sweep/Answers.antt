use Rattle.std.proofs.Common.{arith, ◌≡◌, sym, ap, subst, ◌∙◌}
use Rattle.rc_edges.proofs.Imports.{common_steps, swept, IsAt, IsGap, IsKeyed, rows_in, get_at, get_none, swept_filled, swept_none, swept_out, writes_out}
use Rattle.rc_edges.proofs.list_map.ListMapEdgeMap.sweep.Goals as goal
use Rattle.rc_edges.proofs.list_map.ListMapEdgeMap.sweep.Goals.{After-index-item, After-remove}

pub returns-in_default-clause-now : goal.returns-in_default-clause-now
returns-in_default-clause-now c =
    swept_none c.args.self.now c.args.key.now
    (get_none c.args.self.now c.args.key.now c.self.inside.items.items c.in_default.field-0 c.self.view_is c.self.invariant
    (subst (λ z. IsGap c.args.key.now z c.in_default.field-0) c.deref.ensures.value c.in_default.ensures.gap))

-- the item found is the key's among the container's items
is_at : (c : After-index-item) → IsAt c.args.key.now c.self.inside.items.items c.in-Ok.at
is_at c = subst (λ z. IsAt c.args.key.now z c.in-Ok.at) c.deref.ensures.value c.in-Ok.ensures.found

-- the items without one taken out still rise
keyed : (c : After-remove) → IsKeyed c.remove.new.self.items
keyed c =
    let at : IsAt c.args.key.now c.self.inside.items.items c.in-Ok.at =
    subst (λ z. IsAt c.args.key.now z c.in-Ok.at) c.deref.ensures.value c.in-Ok.ensures.found in
    subst IsKeyed (sym c.remove.ensures.items) (writes_out c.args.key.now c.self.inside.items.items c.in-Ok.at c.self.invariant at).keyed

pub invariant_of-self : goal.invariant_of-self
invariant_of-self c = keyed (goal.at.invariant_of-self c).After-remove

pub invariant_of-self-then-is_tombstone-2 : goal.invariant_of-self-then-is_tombstone-2
invariant_of-self-then-is_tombstone-2 c = keyed (goal.at.invariant_of-self-then-is_tombstone-2 c).After-remove

pub returns-then-is_tombstone-clause-now : goal.returns-then-is_tombstone-clause-now
returns-then-is_tombstone-clause-now c =
    let out : rows_in c.remove.new.self.items ≡ swept c.args.self.now c.args.key.now =
    ap rows_in c.remove.ensures.items
    ∙ swept_out c.args.self.now c.args.key.now c.self.inside.items.items c.in-Ok.at c.index-item.result.now c.self.view_is c.self.invariant
    (is_at (goal.at.returns-then-is_tombstone-clause-now c).After-index-item) c.index-item.ensures
    (sym c.is_tombstone.ensures ∙ c.if-is_tombstone.true) in
    grind (arith, common_steps, out)

pub returns-else-is_tombstone-clause-now : goal.returns-else-is_tombstone-clause-now
returns-else-is_tombstone-clause-now c =
    swept_filled c.args.self.now c.args.key.now c.index-item.result.now.1
    (get_at c.args.self.now c.args.key.now c.self.inside.items.items c.in-Ok.at c.index-item.result.now c.self.view_is
    (is_at (goal.at.returns-else-is_tombstone-clause-now c).After-index-item) c.index-item.ensures)
    (sym c.is_tombstone.ensures ∙ c.if-is_tombstone.false)
