use Rattle.std.proofs.Common.{◌≡◌, ◌-◌, ◌<◌, ◌≤◌, Some, refl, sym, ap, subst, ◌∙◌, arith}
use Rattle.rc_fragment.proofs.Imports.{IsSome, List, slice_get, vec_len, vec_capacity, slice_get_in, cols_of, HasExtra, now_in, edge_row, HasAlone, IsFragment, found_by, listing, shapes, now_at_place, taken_rows, EdgeRows}
use Rattle.rc_fragment.proofs.ChangeLemmas.{found_edge}
use Rattle.rc_fragment.proofs.ListingLemmas.{extra_in, key_in, source_in}
use Rattle.rc_fragment.proofs.NotedLemmas.{IsNoteOf, at_row, out_fragment, out_taken, place_lowered, rows_lowered}
use Rattle.rc_fragment.proofs.NoteLemmas.{room_some}
use Rattle.rc_fragment.proofs.RowLemmas.{there_alone, there_found, there_over}
use Rattle.rc_fragment.proofs.TupleLemmas.{note_of_tuple}
use Rattle.rc_fragment.proofs.changes.sub_noted.Goals as goal
use Rattle.rc_fragment.proofs.changes.sub_noted.Goals.{After-index, After-note_row-noted}

-- ---- the edge, the row and its note

number : (c : After-index) → slice_get c.args.edges.now.items c.args.edge ≡ Some c.index.result.now
number c = found_edge c.args.edges.now.items c.args.edge c.index.result.now c.requires.known c.index.ensures

covers : (c : After-index) → cols_of (edge_row (shapes c.args.edges.now.items) c.args.edge c.args.tuple.now) ≡ c.index.result.now.shape.target
covers c = there_over c.args.edges.now.items c.requires.fragment.stored c.args.edge c.index.result.now (number c) (edge_row (shapes c.args.edges.now.items) c.args.edge c.args.tuple.now) c.requires.there

-- what is found at the row's place is the row
found : (c : After-index) → found_by now_in c.args.edges.now.items c.args.edge (source_in c.index.result.now.shape (edge_row (shapes c.args.edges.now.items) c.args.edge c.args.tuple.now)) (key_in c.index.result.now.shape (edge_row (shapes c.args.edges.now.items) c.args.edge c.args.tuple.now)) ≡ Some (extra_in c.index.result.now.shape (edge_row (shapes c.args.edges.now.items) c.args.edge c.args.tuple.now), c.requires.there.0)
found c = there_found c.args.edges.now.items c.requires.fragment.stored c.args.edge c.index.result.now (number c) (edge_row (shapes c.args.edges.now.items) c.args.edge c.args.tuple.now) c.requires.there

own_row : (c : After-index) → HasExtra (found_by now_in c.args.edges.now.items c.args.edge (source_in c.index.result.now.shape (edge_row (shapes c.args.edges.now.items) c.args.edge c.args.tuple.now)) (key_in c.index.result.now.shape (edge_row (shapes c.args.edges.now.items) c.args.edge c.args.tuple.now))) (extra_in c.index.result.now.shape (edge_row (shapes c.args.edges.now.items) c.args.edge c.args.tuple.now))
own_row c = subst (λ z. HasExtra z (extra_in c.index.result.now.shape (edge_row (shapes c.args.edges.now.items) c.args.edge c.args.tuple.now))) (sym (found c)) refl

own_some : (c : After-index) → IsSome (found_by now_in c.args.edges.now.items c.args.edge (source_in c.index.result.now.shape (edge_row (shapes c.args.edges.now.items) c.args.edge c.args.tuple.now)) (key_in c.index.result.now.shape (edge_row (shapes c.args.edges.now.items) c.args.edge c.args.tuple.now)))
own_some c = subst IsSome (sym (found c)) refl

alone : (c : After-index) → HasAlone (shapes c.args.edges.now.items) (listing now_in c.args.edges.now.items) c.args.edge (edge_row (shapes c.args.edges.now.items) c.args.edge c.args.tuple.now)
alone c = there_alone c.args.edges.now.items c.requires.fragment.stored c.args.edge c.index.result.now (number c) (edge_row (shapes c.args.edges.now.items) c.args.edge c.args.tuple.now) c.requires.there

note_of : (c : After-note_row-noted) → IsNoteOf c.args.edge c.index.result.now (edge_row (shapes c.args.edges.now.items) c.args.edge c.args.tuple.now) c.note_row-noted.new.values.items c.note_row-noted.result
note_of c =
    let edges : List EdgeRows = c.args.edges.now.items in
    let x : EdgeRows = c.index.result.now in
    let at : slice_get edges c.args.edge ≡ Some x = found_edge edges c.args.edge x c.requires.known c.index.ensures in
    note_of_tuple edges c.args.edge x at (c.requires.fragment.stored x (slice_get_in edges c.args.edge x at)).parted c.args.tuple.now c.note_row-noted.new.values.items c.note_row-noted.result c.note_row-noted.ensures.place c.note_row-noted.ensures.extra c.note_row-noted.ensures.within

pub note_row-noted-requires-clause-room : goal.note_row-noted-requires-clause-room
note_row-noted-requires-clause-room c =
    let n = c.args.notes.now in
    let v = c.args.values.now in
    let r : (0 < vec_capacity n - vec_len n) × (32 ≤ vec_capacity v - vec_len v) = room_some (vec_capacity n - vec_len n) (vec_capacity v - vec_len v) c.requires.owned in
    omega (arith, r.1)

pub note_row-noted-requires-clause-parted : goal.note_row-noted-requires-clause-parted
note_row-noted-requires-clause-parted c =
    let edges : List EdgeRows = c.args.edges.now.items in
    (c.requires.fragment.stored c.index.result.now (slice_get_in edges c.args.edge c.index.result.now (number (goal.at.note_row-noted-requires-clause-parted c).After-index))).parted

pub sub_place-before-requires-clause-there : goal.sub_place-before-requires-clause-there
sub_place-before-requires-clause-there c =
    let edges : List EdgeRows = c.args.edges.now.items in
    let x : EdgeRows = c.index.result.now in
    let of : IsNoteOf c.args.edge x (edge_row (shapes c.args.edges.now.items) c.args.edge c.args.tuple.now) c.note_row-noted.new.values.items c.note_row-noted.result = note_of (goal.at.sub_place-before-requires-clause-there c).After-note_row-noted in
    subst (λ z. IsSome (now_at_place edges z)) (sym (at_row edges edges c.args.edge x (edge_row (shapes c.args.edges.now.items) c.args.edge c.args.tuple.now) c.note_row-noted.new.values.items c.deref.result.now c.deref.ensures.value c.note_row-noted.result of))
    (own_some (goal.at.sub_place-before-requires-clause-there c).After-index)

-- ---- the row is taken out once

pub returns-clause-fragment : goal.returns-clause-fragment
returns-clause-fragment c =
    let at : After-index = (goal.at.returns-clause-fragment c).After-index in
    subst (λ z. IsFragment c.sub_place-before.new.edges.items z c.note_row-noted.new.values.items) (sym c.push_reserved.ensures.items)
    (out_fragment c.args.edges.now.items c.sub_place-before.new.edges.items c.args.notes.now.items c.args.values.now.items c.note_row-noted.new.values.items _ c.deref.result.now c.note_row-noted.ensures.values c.deref.ensures.value c.requires.fragment
    c.args.edge c.index.result.now (number at) c.requires.known (edge_row (shapes c.args.edges.now.items) c.args.edge c.args.tuple.now) (covers at) c.note_row-noted.result (note_of (goal.at.returns-clause-fragment c).After-note_row-noted) (own_row at) (alone at)
    c.sub_place-before.result c.sub_place-before.ensures.before (own_some at) c.sub_place-before.ensures.becomes)

pub returns-clause-now : goal.returns-clause-now
returns-clause-now c =
    let edges : List EdgeRows = c.args.edges.now.items in
    let x : EdgeRows = c.index.result.now in
    let at : After-index = (goal.at.returns-clause-now c).After-index in
    let of : IsNoteOf c.args.edge x (edge_row (shapes c.args.edges.now.items) c.args.edge c.args.tuple.now) c.note_row-noted.new.values.items c.note_row-noted.result = note_of (goal.at.returns-clause-now c).After-note_row-noted in
    rows_lowered edges c.sub_place-before.new.edges.items c.requires.fragment.stored c.args.edge x (number at) (edge_row (shapes c.args.edges.now.items) c.args.edge c.args.tuple.now) (covers at) (own_row at) (own_some at)
    (place_lowered edges c.sub_place-before.new.edges.items c.args.edge x (edge_row (shapes c.args.edges.now.items) c.args.edge c.args.tuple.now) c.note_row-noted.new.values.items c.deref.result.now c.deref.ensures.value c.note_row-noted.result of c.sub_place-before.ensures.becomes)

pub returns-clause-taken : goal.returns-clause-taken
returns-clause-taken c =
    let at : After-index = (goal.at.returns-clause-taken c).After-index in
    ap (λ z. taken_rows c.sub_place-before.new.edges.items z c.note_row-noted.new.values.items) c.push_reserved.ensures.items
    ∙ out_taken c.args.edges.now.items c.sub_place-before.new.edges.items c.args.notes.now.items c.args.values.now.items c.note_row-noted.new.values.items _ c.deref.result.now c.note_row-noted.ensures.values c.deref.ensures.value c.requires.fragment
    c.args.edge c.index.result.now (number at) c.requires.known (edge_row (shapes c.args.edges.now.items) c.args.edge c.args.tuple.now) (covers at) c.note_row-noted.result (note_of (goal.at.returns-clause-taken c).After-note_row-noted) (own_row at) (alone at)
    c.sub_place-before.result c.sub_place-before.ensures.before (own_some at) c.sub_place-before.ensures.becomes
