use Rattle.std.proofs.Common.{◌≡◌, ◌+◌, ◌<◌, ◌^◌, None, [], Some, insert, sym, ap, subst, ◌∙◌}
use Rattle.rc_edges.proofs.Imports.{option_and_then, Values, Counted, HasExtra, count_of, present, rows_in, get_none, put_in, alone, in_place, no_place, is_own, on_ok, if_ok, own_get, set_own}
use Rattle.std.specs.FinMap as fin
use Rattle.rc_edges.proofs.one_map.OneMapEdgeMap.add.Goals as goal
use Rattle.rc_edges.proofs.one_map.OneMapEdgeMap.add.Goals.{In_default, Then-eq}

-- nothing is kept
none : (c : In_default) → rows_in [] ≡ c.args.self.now
none c = no_place c.args.self.now c.self.inside.place c.in-One.one c.self.view_is c.in-One.is c.in_default.is

not_kept : (c : In_default) → fin.get c.args.self.now c.args.key.now ≡ None
not_kept c = get_none c.args.self.now c.args.key.now [] 0 (none c) tt tt

pub returns-in_default-clause-ok : goal.returns-in_default-clause-ok
returns-in_default-clause-ok c =
    let m = c.args.self.now in
    let key : Values = c.args.key.now in
    let w : Counted = c.in_ok-entry-in-One.entry in
    let a = (goal.at.returns-in_default-clause-ok c).In_default in
    ap (λ (z : Values). rows_in (insert [] 0 (z, w))) c.in_ok-new-in-One.ensures ∙ put_in m key [] 0 w (none a) tt tt
    ∙ ap (fin.insert m key) (c.in_ok-entry-in-One.ensures ∙ ap (λ o. (c.args.extra.now, count_of o + 1)) (sym (not_kept a)))

pub returns-in_default-clause-before : goal.returns-in_default-clause-before
returns-in_default-clause-before c = ap count_of (sym (not_kept (goal.at.returns-in_default-clause-before c).In_default))

-- the entry in place is all that is kept
all : (c : Then-eq) → rows_in (alone (c.in-Some.own, c.in-Some.entry)) ≡ c.args.self.now
all c = in_place c.args.self.now c.self.inside.place c.in-One.one (c.in-Some.own, c.in-Some.entry) c.self.view_is c.in-One.is c.in-Some.is

-- the key is its own
own : (c : Then-eq) → c.args.key.now ≡ c.in-Some.own
own c = is_own c.in-Some.own c.args.key.now c.values.result.now c.eq.result c.values.ensures c.eq.ensures c.if-eq.true

kept : (c : Then-eq) → fin.get c.args.self.now c.args.key.now ≡ Some c.in-Some.entry
kept c = own_get c.args.self.now (c.in-Some.own, c.in-Some.entry) (all c) c.args.key.now (own c)

pub raise-requires-clause-room : goal.raise-requires-clause-room
raise-requires-clause-room c = subst (λ o. count_of o < 2 ^ 63) (kept (goal.at.raise-requires-clause-room c).Then-eq) c.requires.room

pub raise-requires-clause-same : goal.raise-requires-clause-same
raise-requires-clause-same c =
    subst (λ o. HasExtra (option_and_then present o) c.args.extra.now) (kept (goal.at.raise-requires-clause-same c).Then-eq) c.requires.same

pub returns-then-eq-clause-ok : goal.returns-then-eq-clause-ok
returns-then-eq-clause-ok c =
    let m = c.args.self.now in
    let key : Values = c.args.key.now in
    let a = (goal.at.returns-then-eq-clause-ok c).Then-eq in
    let set = set_own m (c.in-Some.own, c.in-Some.entry) (all a) key c.raise.new.self (own a) in
    on_ok c.raise.result (λ e. set ∙ ap (fin.insert m key) (e ∙ ap (λ o. (c.args.extra.now, count_of o + 1)) (sym (kept a))))
    c.raise.ensures.ok

pub returns-then-eq-clause-before : goal.returns-then-eq-clause-before
returns-then-eq-clause-before c =
    if_ok c.raise.result (λ x e. e ∙ ap count_of (sym (kept (goal.at.returns-then-eq-clause-before c).Then-eq))) c.raise.ensures.before
