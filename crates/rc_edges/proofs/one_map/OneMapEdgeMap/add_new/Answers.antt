use Rattle.std.proofs.Common.{◌≡◌, None, [], Some, insert, ap, ◌∙◌}
use Rattle.std.specs.FinMap as fin
use Rattle.rc_edges.proofs.Imports.{Values, Counted, rows_in, get_none, put_in, alone, in_place, no_place, is_own, if_ok, own_get, set_own, started_at, started_new}
use Rattle.rc_edges.proofs.one_map.OneMapEdgeMap.add_new.Goals as goal
use Rattle.rc_edges.proofs.one_map.OneMapEdgeMap.add_new.Goals.{In_default, Then-eq}

-- nothing is kept
none : (c : In_default) → rows_in [] ≡ c.args.self.now
none c = no_place c.args.self.now c.self.inside.place c.in-One.one c.self.view_is c.in-One.is c.in_default.is

not_kept : (c : In_default) → fin.get c.args.self.now c.args.key.now ≡ None
not_kept c = get_none c.args.self.now c.args.key.now [] 0 (none c) tt tt

pub returns-in_default-clause-ok : goal.returns-in_default-clause-ok
returns-in_default-clause-ok c =
    let m = c.args.self.now in
    let key : Values = c.args.key.now in
    let w : Counted = c.in_ok-entry-in-One.entry in
    let a = (goal.at.returns-in_default-clause-ok c).In_default in
    started_new m _ key c.args.extra.now w (not_kept a)
    (ap (λ (z : Values). rows_in (insert [] 0 (z, w))) c.in_ok-new-in-One.ensures ∙ put_in m key [] 0 w (none a) tt tt)
    c.in_ok-entry-in-One.ensures

-- the entry in place is all that is kept
all : (c : Then-eq) → rows_in (alone (c.in-Some.own, c.in-Some.entry)) ≡ c.args.self.now
all c = in_place c.args.self.now c.self.inside.place c.in-One.one (c.in-Some.own, c.in-Some.entry) c.self.view_is c.in-One.is c.in-Some.is

-- the key is its own
own : (c : Then-eq) → c.args.key.now ≡ c.in-Some.own
own c = is_own c.in-Some.own c.args.key.now c.values.result.now c.eq.result c.values.ensures c.eq.ensures c.if-eq.true

kept : (c : Then-eq) → fin.get c.args.self.now c.args.key.now ≡ Some c.in-Some.entry
kept c = own_get c.args.self.now (c.in-Some.own, c.in-Some.entry) (all c) c.args.key.now (own c)

pub returns-then-eq-clause-ok : goal.returns-then-eq-clause-ok
returns-then-eq-clause-ok c =
    let m = c.args.self.now in
    let key : Values = c.args.key.now in
    let a = (goal.at.returns-then-eq-clause-ok c).Then-eq in
    let set = set_own m (c.in-Some.own, c.in-Some.entry) (all a) key c.start.new.self (own a) in
    if_ok c.start.result (started_at m _ key c.args.extra.now c.in-Some.entry c.start.new.self (kept a) set) c.start.ensures.ok
