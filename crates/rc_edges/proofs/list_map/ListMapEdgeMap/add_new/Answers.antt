use Rattle.std.proofs.Common.{◌≡◌, None, Some, sym, ap, subst, ◌∙◌}
use Rattle.rc_edges.proofs.Imports.{insert, Values, Counted, Items, IsAt, IsGap, IsKeyed, rows_in, get_at, get_none, put_in, set_at, writes_at, writes_gap, if_ok, started_at, started_new}
use Rattle.std.specs.FinMap as fin
use Rattle.rc_edges.proofs.list_map.ListMapEdgeMap.add_new.Goals as goal
use Rattle.rc_edges.proofs.list_map.ListMapEdgeMap.add_new.Goals.{In-Err, After-index_mut-item}

-- the item found is the key's among the container's items
is_at : (c : After-index_mut-item) → IsAt c.args.key.now c.self.inside.items.items c.in-Ok.at
is_at c = subst (λ z. IsAt c.args.key.now z c.in-Ok.at) c.deref.ensures.value c.in-Ok.ensures.found

-- its entry is what is kept at the key
kept : (c : After-index_mut-item) → fin.get c.args.self.now c.args.key.now ≡ Some c.index_mut-item.result.now.1
kept c =
    get_at c.args.self.now c.args.key.now c.self.inside.items.items c.in-Ok.at c.index_mut-item.result.now c.self.view_is (is_at c)
    c.index_mut-item.ensures.value

-- or else the key goes in at the place found
is_gap : (c : In-Err) → IsGap c.args.key.now c.self.inside.items.items c.in-Err.at
is_gap c = subst (λ z. IsGap c.args.key.now z c.in-Err.at) c.deref.ensures.value c.in-Err.ensures.gap

pub invariant_of-self : goal.invariant_of-self
invariant_of-self c =
    (writes_at c.args.key.now c.self.inside.items.items c.in-Ok.at c.index_mut-item.result.now c.start.new.self c.self.invariant
    (is_at (goal.at.invariant_of-self c).After-index_mut-item) c.index_mut-item.ensures.value).keyed

pub invariant_of-self-in-Err : goal.invariant_of-self-in-Err
invariant_of-self-in-Err c =
    let es : Items = c.self.inside.items.items in
    let w : Counted = c.in_ok-entry-in-Err.entry in
    let e : c.insert.new.self.items ≡ insert es c.in-Err.at (c.args.key.now, w) =
    c.in_ok-insert-in-Err.ensures.items ∙ ap (λ (z : Values). insert es c.in-Err.at (z, w)) c.in_ok-key-in-Err.ensures in
    subst IsKeyed (sym e) (writes_gap c.args.key.now es c.in-Err.at w c.self.invariant
    (is_gap (goal.at.invariant_of-self-in-Err c).In-Err)).keyed

pub returns-in-Ok-clause-ok : goal.returns-in-Ok-clause-ok
returns-in-Ok-clause-ok c =
    let m = c.args.self.now in
    let key : Values = c.args.key.now in
    let a = (goal.at.returns-in-Ok-clause-ok c).After-index_mut-item in
    let set = set_at m key c.self.inside.items.items c.in-Ok.at c.index_mut-item.result.now c.start.new.self c.self.view_is c.self.invariant
    (is_at a) c.index_mut-item.ensures.value in
    if_ok c.start.result (started_at m _ key c.args.extra.now c.index_mut-item.result.now.1 c.start.new.self (kept a) set) c.start.ensures.ok

pub returns-in_ok-insert-in-Err-clause-ok : goal.returns-in_ok-insert-in-Err-clause-ok
returns-in_ok-insert-in-Err-clause-ok c =
    let m = c.args.self.now in
    let key : Values = c.args.key.now in
    let a = (goal.at.returns-in_ok-insert-in-Err-clause-ok c).In-Err in
    let items : Items = c.self.inside.items.items in
    started_new m _ key c.args.extra.now c.in_ok-entry-in-Err.entry
    (get_none m key items c.in-Err.at c.self.view_is c.self.invariant (is_gap a))
    (ap rows_in c.in_ok-insert-in-Err.ensures.items
    ∙ ap (λ (z : Values). rows_in (insert items c.in-Err.at (z, c.in_ok-entry-in-Err.entry))) c.in_ok-key-in-Err.ensures
    ∙ put_in m key items c.in-Err.at c.in_ok-entry-in-Err.entry c.self.view_is c.self.invariant (is_gap a))
    c.in_ok-entry-in-Err.ensures
