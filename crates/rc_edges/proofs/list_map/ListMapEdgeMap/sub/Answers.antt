use Rattle.std.proofs.Common.{◌≡◌, Some, sym, ap, subst, ◌∙◌}
use Rattle.std.specs.FinMap as fin
use Rattle.rc_edges.proofs.Imports.{IsSome, option_and_then, false≢true, count_of, one_less, present, written, IsAt, IsGap, found_none, get_at, set_at, writes_at, counts}
use Rattle.rc_edges.proofs.list_map.ListMapEdgeMap.sub.Goals as goal
use Rattle.rc_edges.proofs.list_map.ListMapEdgeMap.sub.Goals.{After-index_mut-item}

pub unreachable-requires : goal.unreachable-requires
unreachable-requires c =
    let gap : IsGap c.args.key.now c.self.inside.items.items c.in_default.field-0 =
    subst (λ z. IsGap c.args.key.now z c.in_default.field-0) c.deref.ensures.value c.in_default.ensures.gap in
    absurd (false≢true (subst IsSome (found_none c.args.self.now c.args.key.now c.self.inside.items.items c.in_default.field-0
    c.self.view_is c.self.invariant gap) c.requires))

-- the item found is the key's among the container's items
is_at : (c : After-index_mut-item) → IsAt c.args.key.now c.self.inside.items.items c.in-Ok.at
is_at c = subst (λ z. IsAt c.args.key.now z c.in-Ok.at) c.deref.ensures.value c.in-Ok.ensures.found

-- its entry is what is kept at the key
kept : (c : After-index_mut-item) → fin.get c.args.self.now c.args.key.now ≡ Some c.index_mut-item.result.now.1
kept c =
    get_at c.args.self.now c.args.key.now c.self.inside.items.items c.in-Ok.at c.index_mut-item.result.now c.self.view_is (is_at c)
    c.index_mut-item.ensures.value

pub lower-requires : goal.lower-requires
lower-requires c =
    let e = ap (option_and_then present) (kept (goal.at.lower-requires c).After-index_mut-item) in
    counts c.index_mut-item.result.now.1 (subst IsSome e c.requires)

pub invariant_of-self : goal.invariant_of-self
invariant_of-self c =
    (writes_at c.args.key.now c.self.inside.items.items c.in-Ok.at c.index_mut-item.result.now c.lower.new.self c.self.invariant
    (is_at (goal.at.invariant_of-self c).After-index_mut-item) c.index_mut-item.ensures.value).keyed

pub returns-clause-now : goal.returns-clause-now
returns-clause-now c =
    let a = (goal.at.returns-clause-now c).After-index_mut-item in
    set_at c.args.self.now c.args.key.now c.self.inside.items.items c.in-Ok.at c.index_mut-item.result.now c.lower.new.self c.self.view_is
    c.self.invariant
    (is_at a) c.index_mut-item.ensures.value
    ∙ ap (fin.insert c.args.self.now c.args.key.now) c.lower.ensures.now
    ∙ ap (λ o. written c.args.self.now c.args.key.now (one_less o)) (sym (kept a))

pub returns-clause-before : goal.returns-clause-before
returns-clause-before c = c.lower.ensures.before ∙ ap count_of (sym (kept (goal.at.returns-clause-before c).After-index_mut-item))
