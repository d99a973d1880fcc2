use Rattle.std.proofs.Common.{◌≡◌, [], sym, ap, ◌∙◌}
use Rattle.rc_edges.proofs.Imports.{option_and_then, Values, Counted, extra_of, present, rows_in, found_none, alone, in_place, no_place, is_own, is_other, own_found, other_none}
use Rattle.rc_edges.proofs.one_map.OneMapEdgeMap.get.Goals as goal
use Rattle.rc_edges.proofs.one_map.OneMapEdgeMap.get.Goals.{In-Some}

pub returns-in_default : goal.returns-in_default
returns-in_default c =
    ap extra_of (sym (found_none c.args.self.now c.args.key.now [] 0
    (no_place c.args.self.now c.self.inside.place c.in-One.one c.self.view_is c.in-One.is c.in_default.is) tt tt))

-- the entry in place is all that is kept
all : (c : In-Some) → rows_in (alone (c.in-Some.own, c.in-Some.entry)) ≡ c.args.self.now
all c = in_place c.args.self.now c.self.inside.place c.in-One.one (c.in-Some.own, c.in-Some.entry) c.self.view_is c.in-One.is c.in-Some.is

pub returns-then-eq : goal.returns-then-eq
returns-then-eq c =
    let i : Values × Counted = (c.in-Some.own, c.in-Some.entry) in
    let h = is_own i.0 c.args.key.now c.values.result.now c.eq.result c.values.ensures c.eq.ensures c.if-eq.true in
    c.extra.ensures ∙ ap extra_of (sym (own_found c.args.self.now i (all (goal.at.returns-then-eq c).In-Some) c.args.key.now h))

pub returns-else-eq : goal.returns-else-eq
returns-else-eq c =
    let i : Values × Counted = (c.in-Some.own, c.in-Some.entry) in
    let n = is_other i.0 c.args.key.now c.values.result.now c.eq.result c.values.ensures c.eq.ensures c.if-eq.false in
    ap (λ o. extra_of (option_and_then present o))
    (sym (other_none c.args.self.now i (all (goal.at.returns-else-eq c).In-Some) c.args.key.now n))
