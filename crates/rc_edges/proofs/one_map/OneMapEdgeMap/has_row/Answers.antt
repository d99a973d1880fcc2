use Rattle.std.proofs.Common.{◌≡◌, ◌<◌, Bool, true, false, [], refl, ap, subst, ◌∙◌}
use Rattle.std.specs.Prelude.{◌↔◌, ◌||◌, not}
use Rattle.rc_edges.proofs.Imports.{IsTrue, Values, Counted, Rows, current, has_row-items, alone, in_place, no_place}
use Rattle.std.specs.FinMap as fin
use Rattle.rc_edges.proofs.one_map.OneMapEdgeMap.has_row.Goals as goal

at_the_end : (b : Bool) → b ≡ (b || false)
at_the_end true = refl
at_the_end false = refl

pub returns-in-Some : goal.returns-in-Some
returns-in-Some c =
    let i : Values × Counted = (c.in-Some.field-0-0, c.in-Some.entry) in
    let is = in_place c.args.self.now c.self.inside.place c.in-One.one i c.self.view_is c.in-One.is c.in-Some.is in
    subst (λ (m : Rows). IsTrue (not c.is_tombstone.result) ↔ (0 < fin.len (current m))) is
    (has_row-items (alone i) tt (not c.is_tombstone.result) (at_the_end (not c.is_tombstone.result) ∙ ap (λ b. not b || false) c.is_tombstone.ensures))

pub returns-in-None : goal.returns-in-None
returns-in-None c =
    subst (λ (m : Rows). IsTrue false ↔ (0 < fin.len (current m)))
    (no_place c.args.self.now c.self.inside.place c.in-One.one c.self.view_is c.in-One.is c.in-None.is) (has_row-items [] tt false refl)
