use Rattle.std.proofs.Common.{◌≡◌, None, Some, [], sym, ap, ◌∙◌}
use Rattle.std.specs.FinMap as fin
use Rattle.rc_edges.proofs.Imports.{Values, Counted, Rows, current, count_in, count_one, len-rows, alone, in_place, no_place}
use Rattle.rc_edges.proofs.one_map.OneMapEdgeMap.len.Goals as goal
use Rattle.rc_edges.proofs.one_map.OneMapEdgeMap.len.Goals.{In-Some}

pub returns-in_default : goal.returns-in_default
returns-in_default c =
    sym (len-rows [] tt)
    ∙ ap (λ (z : Rows). fin.len (current z)) (no_place c.args.self.now c.self.inside.place c.in-One.one c.self.view_is c.in-One.is
    c.in_default.is)

-- the rows that are there are the entry's
counted : (c : In-Some) → count_in (alone (c.in-Some.field-0-0, c.in-Some.entry)) ≡ fin.len (current c.args.self.now)
counted c =
    let i : Values × Counted = (c.in-Some.field-0-0, c.in-Some.entry) in
    sym (len-rows (alone i) tt)
    ∙ ap (λ (z : Rows). fin.len (current z)) (in_place c.args.self.now c.self.inside.place c.in-One.one i c.self.view_is c.in-One.is
    c.in-Some.is)

pub returns-in-Some-extra : goal.returns-in-Some-extra
returns-in-Some-extra c =
    sym (count_one (c.in-Some.field-0-0, c.in-Some.entry) (Some c.in-Some-extra.field-0.now) c.in-Some-extra.ensures)
    ∙ counted (goal.at.returns-in-Some-extra c).In-Some

pub returns-in-None : goal.returns-in-None
returns-in-None c =
    sym (count_one (c.in-Some.field-0-0, c.in-Some.entry) None c.in-None.ensures) ∙ counted (goal.at.returns-in-None c).In-Some
