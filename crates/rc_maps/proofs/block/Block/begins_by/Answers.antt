use Rattle.std.proofs.Common.{sym, ap, ◌∙◌}
use Rattle.rc_maps.proofs.Imports.{slice_get, begin_by, begins_no_key, begins_no_row, begins_row, entries_are}
use Rattle.rc_maps.proofs.block.Block.begins_by.Goals as goal

pub returns-in-Some-Some : goal.returns-in-Some-Some
returns-in-Some-Some g c =
    let rows = c.self.inside.rows.items in
    let row = c.in-Some-Some.row.now in
    begins_row rows c.args.key.now row c.in-Some-Some.value.now (c.in-Some-Some.ensures.value ∙ ap (λ z. slice_get z 0) c.deref.ensures.value)
    c.in-Some-Some.ensures'.value
    ∙ ap (λ z. begin_by z c.args.key.now) (sym (entries_are rows c.args.self.now c.self.view_is c.self.invariant.keyed))

pub returns-in_default : goal.returns-in_default
returns-in_default g c =
    let rows = c.self.inside.rows.items in
    begins_no_key rows c.args.key.now c.in_default.ensures'.value
    ∙ ap (λ z. begin_by z c.args.key.now) (sym (entries_are rows c.args.self.now c.self.view_is c.self.invariant.keyed))

pub returns-in_default-2 : goal.returns-in_default-2
returns-in_default-2 g c =
    let rows = c.self.inside.rows.items in
    begins_no_row rows c.args.key.now (c.in_default.ensures.value ∙ ap (λ z. slice_get z 0) c.deref.ensures.value)
    ∙ ap (λ z. begin_by z c.args.key.now) (sym (entries_are rows c.args.self.now c.self.view_is c.self.invariant.keyed))
