use Rattle.std.proofs.Common.{◌≡◌, ◌∷◌, ◌++◌, [], OnOk, sym, ap, subst, ◌∙◌}
use Rattle.rc_edges.proofs.Imports.{append-nil, Values, Counted, listed, values_in, listed-rows, alone, in_place, no_place}
use Rattle.rc_edges.proofs.one_map.OneMapEdgeMap.scan.Goals as goal

pub returns-in_default-clause-ok : goal.returns-in_default-clause-ok
returns-in_default-clause-ok c =
    sym (append-nil c.args.out.now.items) ∙ ap (λ z. c.args.out.now.items ++ z)
    (sym (listed-rows [] tt)
    ∙ ap listed (no_place c.args.self.now c.self.inside.place c.in-One.one c.self.view_is c.in-One.is c.in_default.is))

pub returns-in-Some-clause-ok : goal.returns-in-Some-clause-ok
returns-in-Some-clause-ok c =
    let i : Values × Counted = (c.in-Some.key, c.in-Some.entry) in
    subst (λ z. OnOk c.push_row.result (c.push_row.new.out.items ≡ c.args.out.now.items ++ z))
    (ap (λ (z : Values). values_in ((z, i.1) ∷ [])) c.values.ensures ∙ sym (listed-rows (alone i) tt)
    ∙ ap listed (in_place c.args.self.now c.self.inside.place c.in-One.one i c.self.view_is c.in-One.is c.in-Some.is))
    c.push_row.ensures.ok
