use Rattle.std.proofs.Common.{◌≡◌, ◌+◌, ◌∷◌, ℕ, length, drop, get_or, sym, ap, subst, ◌∙◌, arith}
use Rattle.rc_fragment.proofs.Imports.{List, [], false, Vec, Global, Values, get_or_in, IsNoted, drop_all, drop_more, EdgeRows, Note}
use Rattle.rc_fragment.proofs.PlaceLemmas.{same_length}
use Rattle.rc_fragment.proofs.RevertLemmas.{IsSweeping, all_swept, sweeping_first, sweeping_next, sweeping_past}
use Rattle.rc_fragment.proofs.places.sweep_places.Goals as goal
use Rattle.rc_fragment.proofs.places.sweep_places.Goals.{then-is_swept, else-is_swept}

-- what stands where there is no note
abbrev no_note : Note
no_note = record { row = record { edge = 0; start = 0; key_start = 0; extra_start = 0; end = 0 }; took_out = false; count = 0 }

pub loop-note-init : goal.loop-note-init
loop-note-init c = sweeping_first c.args.after c.args.edges.now.items c.args.notes.now c.args.values.now c.requires.stored c.requires.tombstones c.requires.emptied

pub loop-note-preserved : goal.loop-note-preserved
loop-note-preserved c =
    let i : ℕ = c.loop-note.note-index in
    let n : Note = get_or c.args.notes.now i no_note in
    let left : List Note = drop (i + 1) c.args.notes.now in
    let after = c.args.after in
    let values : Values = c.args.values.now in
    let old : List EdgeRows = c.args.edges.now.items in
    let now : List EdgeRows = c.loop-note.edges.items in
    let here : IsSweeping after old now (n ∷ left) values = subst (λ z. IsSweeping after old now z values) (drop_more c.args.notes.now i no_note c.loop-note-test.true) c.loop-note.invariant in
    elim c.if-is_swept.branch [
      | then-is_swept w ↦ subst (λ (z : List EdgeRows). IsSweeping after old z left values) (sym (ap (λ (v : Vec EdgeRows Global). v.items) w.edges-is)) (sweeping_next after old now w.sweep_place.new.edges.items n left values here w.sweep_place.ensures)
      | else-is_swept w ↦ subst (λ (z : List EdgeRows). IsSweeping after old z left values) (sym (ap (λ (v : Vec EdgeRows Global). v.items) w.edges-is)) (sweeping_past after old now n left values (sym c.is_swept.ensures ∙ w.if-is_swept.false) here)
    ]

pub sweep_place-requires-clause-edge : goal.sweep_place-requires-clause-edge
sweep_place-requires-clause-edge c =
    let i : ℕ = c.loop-note.note-index in
    let h : IsNoted c.args.edges.now.items c.args.values.now (get_or c.args.notes.now i no_note).row = c.requires.noted _ (get_or_in c.args.notes.now i no_note c.loop-note-test.true) in
    let l : length c.loop-note.edges.items ≡ length c.args.edges.now.items = same_length c.loop-note.edges.items c.args.edges.now.items c.loop-note.invariant.same in
    omega (arith, h.edge, l)

pub sweep_place-requires-clause-within : goal.sweep_place-requires-clause-within
sweep_place-requires-clause-within c = (c.requires.noted _ (get_or_in c.args.notes.now c.loop-note.note-index no_note c.loop-note-test.true)).within

pub returns-clause-swept : goal.returns-clause-swept
returns-clause-swept c =
    let last : IsSweeping c.args.after c.args.edges.now.items c.loop-note.edges.items [] c.args.values.now =
    subst (λ z. IsSweeping c.args.after c.args.edges.now.items c.loop-note.edges.items z c.args.values.now) (drop_all c.loop-note.note-index c.args.notes.now c.loop-note-test.false) c.loop-note.invariant in
    all_swept c.args.after c.loop-note.edges.items c.args.values.now last.tombstones
