use Rattle.std.proofs.Common.{◌≡◌, ◌-◌, ◌<◌, ◌≤◌, ◌^◌, take, Some, sym, ap, subst, ◌∙◌, arith}
use Rattle.rc_fragment.proofs.Imports.{List, false, slice_get, vec_len, vec_capacity, take-append_seam, slice_get_in, cols_of, Values, HasExtra, count_of, now_in, edge_row, IsFragment, found_by, listing, shapes, IsRowAt, Place, changes_of, kept_at_place, key_of, noted_extra, place_of, source_of, taken_rows, undone, IsSingle, EdgeRows, NotedRow}
use Rattle.rc_fragment.proofs.ChangeLemmas.{found_edge}
use Rattle.rc_fragment.proofs.ListingLemmas.{extra_in, key_in, source_in}
use Rattle.rc_fragment.proofs.NotedLemmas.{IsNoteOf, added_fragment, added_taken, at_row, noted_values, own_count, place_added, rows_raised}
use Rattle.rc_fragment.proofs.NoteLemmas.{room_some}
use Rattle.rc_fragment.proofs.PlaceLemmas.{fragment_same}
use Rattle.rc_fragment.proofs.RowLemmas.{alone_found, listing_stays, shape_there, single_found}
use Rattle.rc_fragment.proofs.TupleLemmas.{note_of_tuple}
use Rattle.rc_fragment.proofs.changes.add_noted.Goals as goal
use Rattle.rc_fragment.proofs.changes.add_noted.Goals.{After-index, After-note_row-noted, After-truncate}

-- ---- the edge, the row and its note

number : (c : After-index) → slice_get c.args.edges.now.items c.args.edge ≡ Some c.index.result.now
number c = found_edge c.args.edges.now.items c.args.edge c.index.result.now c.requires.known c.index.ensures

covers : (c : After-index) → cols_of (edge_row (shapes c.args.edges.now.items) c.args.edge c.args.tuple.now) ≡ c.index.result.now.shape.target
covers c = c.requires.can.columns c.index.result.now.shape (shape_there c.args.edges.now.items c.args.edge c.index.result.now (number c))

-- what is found at the row's place, if anything, is the row
own_row : (c : After-index) → HasExtra (found_by now_in c.args.edges.now.items c.args.edge (source_in c.index.result.now.shape (edge_row (shapes c.args.edges.now.items) c.args.edge c.args.tuple.now)) (key_in c.index.result.now.shape (edge_row (shapes c.args.edges.now.items) c.args.edge c.args.tuple.now))) (extra_in c.index.result.now.shape (edge_row (shapes c.args.edges.now.items) c.args.edge c.args.tuple.now))
own_row c = alone_found c.args.edges.now.items c.requires.fragment.stored c.args.edge c.index.result.now (number c) (edge_row (shapes c.args.edges.now.items) c.args.edge c.args.tuple.now) (covers c) c.requires.can.alone

note_of : (c : After-note_row-noted) → IsNoteOf c.args.edge c.index.result.now (edge_row (shapes c.args.edges.now.items) c.args.edge c.args.tuple.now) c.note_row-noted.new.values.items c.note_row-noted.result
note_of c =
    let edges : List EdgeRows = c.args.edges.now.items in
    let x : EdgeRows = c.index.result.now in
    let at : slice_get edges c.args.edge ≡ Some x = found_edge edges c.args.edge x c.requires.known c.index.ensures in
    note_of_tuple edges c.args.edge x at (c.requires.fragment.stored x (slice_get_in edges c.args.edge x at)).parted c.args.tuple.now c.note_row-noted.new.values.items c.note_row-noted.result c.note_row-noted.ensures.place c.note_row-noted.ensures.extra c.note_row-noted.ensures.within

pub note_row-noted-requires-clause-room : goal.note_row-noted-requires-clause-room
note_row-noted-requires-clause-room c =
    let n = c.args.notes.now in
    let v = c.args.values.now in
    let r : (0 < vec_capacity n - vec_len n) × (32 ≤ vec_capacity v - vec_len v) = room_some (vec_capacity n - vec_len n) (vec_capacity v - vec_len v) c.requires.owned in
    omega (arith, r.1)

pub note_row-noted-requires-clause-parted : goal.note_row-noted-requires-clause-parted
note_row-noted-requires-clause-parted c =
    let edges : List EdgeRows = c.args.edges.now.items in
    (c.requires.fragment.stored c.index.result.now (slice_get_in edges c.args.edge c.index.result.now (number (goal.at.note_row-noted-requires-clause-parted c).After-index))).parted

pub add_place-requires-clause-row : goal.add_place-requires-clause-row
add_place-requires-clause-row c =
    let edges : List EdgeRows = c.args.edges.now.items in
    let n : NotedRow = c.note_row-noted.result in
    let x : EdgeRows = c.index.result.now in
    let at : After-index = (goal.at.add_place-requires-clause-row c).After-index in
    let of : IsNoteOf c.args.edge x (edge_row (shapes c.args.edges.now.items) c.args.edge c.args.tuple.now) c.note_row-noted.new.values.items n = note_of (goal.at.add_place-requires-clause-row c).After-note_row-noted in
    subst (λ z. IsRowAt edges n.edge (source_of z n) (key_of z n) (noted_extra z n)) (sym c.deref.ensures.value) record {
      values = noted_values edges c.args.notes.now.items c.args.values.now.items c.note_row-noted.new.values.items _ c.note_row-noted.ensures.values c.requires.fragment c.args.edge x (number at) c.requires.known (edge_row (shapes c.args.edges.now.items) c.args.edge c.args.tuple.now) (covers at) (record { row = n; took_out = false; count = 0 }) of;
      same = subst (λ (z : Place × Values). HasExtra (found_by now_in edges z.0.0 z.0.1 z.0.2) z.1) (λ i. (sym of.place i, sym of.extra i)) (own_row at);
    }

pub add_place-requires-clause-room : goal.add_place-requires-clause-room
add_place-requires-clause-room c =
    let edges : List EdgeRows = c.args.edges.now.items in
    let x : EdgeRows = c.index.result.now in
    let at : After-index = (goal.at.add_place-requires-clause-room c).After-index in
    let of : IsNoteOf c.args.edge x (edge_row (shapes c.args.edges.now.items) c.args.edge c.args.tuple.now) c.note_row-noted.new.values.items c.note_row-noted.result = note_of (goal.at.add_place-requires-clause-room c).After-note_row-noted in
    subst (λ z. count_of (kept_at_place edges z) < 2 ^ 63) (sym (at_row edges edges c.args.edge x (edge_row (shapes c.args.edges.now.items) c.args.edge c.args.tuple.now) c.note_row-noted.new.values.items c.deref.result.now c.deref.ensures.value c.note_row-noted.result of))
    (subst (λ z. z < 2 ^ 63) (own_count edges edges c.requires.fragment.stored c.args.edge x (number at) (edge_row (shapes c.args.edges.now.items) c.args.edge c.args.tuple.now) (covers at) (own_row at)) c.requires.can.small)

pub add_place-requires-clause-single : goal.add_place-requires-clause-single
add_place-requires-clause-single c =
    let edges : List EdgeRows = c.args.edges.now.items in
    let x : EdgeRows = c.index.result.now in
    let at : After-index = (goal.at.add_place-requires-clause-single c).After-index in
    let of : IsNoteOf c.args.edge x (edge_row (shapes c.args.edges.now.items) c.args.edge c.args.tuple.now) c.note_row-noted.new.values.items c.note_row-noted.result = note_of (goal.at.add_place-requires-clause-single c).After-note_row-noted in
    subst (λ (z : Place). (y : EdgeRows) → slice_get edges z.0 ≡ Some y → IsSingle y z.1 z.2)
    (sym (at_row edges edges c.args.edge x (edge_row (shapes c.args.edges.now.items) c.args.edge c.args.tuple.now) c.note_row-noted.new.values.items c.deref.result.now c.deref.ensures.value c.note_row-noted.result of))
    (λ y g.
    let same : Some x ≡ Some y = sym (number at) ∙ g in
    let p : x ≡ y = cc in
    subst (λ z. IsSingle z (source_in x.shape (edge_row (shapes c.args.edges.now.items) c.args.edge c.args.tuple.now)) (key_in x.shape (edge_row (shapes c.args.edges.now.items) c.args.edge c.args.tuple.now))) p
    (single_found edges c.requires.fragment.stored c.args.edge x (number at) (edge_row (shapes c.args.edges.now.items) c.args.edge c.args.tuple.now) (covers at) c.requires.can.single))

-- ---- the row is added

pub returns-clause-fragment : goal.returns-clause-fragment
returns-clause-fragment c =
    let at : After-index = (goal.at.returns-clause-fragment c).After-index in
    subst (λ z. IsFragment c.add_place.new.edges.items z c.note_row-noted.new.values.items) (sym c.push_reserved.ensures.items)
    (added_fragment c.args.edges.now.items c.add_place.new.edges.items c.args.notes.now.items c.args.values.now.items c.note_row-noted.new.values.items _ c.deref.result.now c.note_row-noted.ensures.values c.deref.ensures.value c.requires.fragment
    c.args.edge c.index.result.now (number at) c.requires.known (edge_row (shapes c.args.edges.now.items) c.args.edge c.args.tuple.now) (covers at) c.note_row-noted.result (note_of (goal.at.returns-clause-fragment c).After-note_row-noted) (own_row at) c.requires.can.alone
    c.in-Ok.before c.in-Ok.ensures.before c.in-Ok.ensures.ok)

pub returns-clause-ok : goal.returns-clause-ok
returns-clause-ok c =
    let edges : List EdgeRows = c.args.edges.now.items in
    let x : EdgeRows = c.index.result.now in
    let at : After-index = (goal.at.returns-clause-ok c).After-index in
    let of : IsNoteOf c.args.edge x (edge_row (shapes c.args.edges.now.items) c.args.edge c.args.tuple.now) c.note_row-noted.new.values.items c.note_row-noted.result = note_of (goal.at.returns-clause-ok c).After-note_row-noted in
    rows_raised edges c.add_place.new.edges.items c.requires.fragment.stored c.args.edge x (number at) (edge_row (shapes c.args.edges.now.items) c.args.edge c.args.tuple.now) (covers at) (own_row at)
    (place_added edges c.add_place.new.edges.items c.args.edge x (edge_row (shapes c.args.edges.now.items) c.args.edge c.args.tuple.now) c.note_row-noted.new.values.items c.deref.result.now c.deref.ensures.value c.note_row-noted.result of c.in-Ok.ensures.ok)

pub returns-clause-taken : goal.returns-clause-taken
returns-clause-taken c =
    let at : After-index = (goal.at.returns-clause-taken c).After-index in
    ap (λ z. taken_rows c.add_place.new.edges.items z c.note_row-noted.new.values.items) c.push_reserved.ensures.items
    ∙ added_taken c.args.edges.now.items c.add_place.new.edges.items c.args.notes.now.items c.args.values.now.items c.note_row-noted.new.values.items _ c.deref.result.now c.note_row-noted.ensures.values c.deref.ensures.value c.requires.fragment
    c.args.edge c.index.result.now (number at) c.requires.known (edge_row (shapes c.args.edges.now.items) c.args.edge c.args.tuple.now) (covers at) c.note_row-noted.result (note_of (goal.at.returns-clause-taken c).After-note_row-noted) (own_row at) c.requires.can.alone
    c.in-Ok.before c.in-Ok.ensures.before c.in-Ok.ensures.ok

-- ---- memory was wanted

-- the values are those of before
old_values : (c : After-truncate) → c.truncate.new.self.items ≡ c.args.values.now.items
old_values c =
    c.truncate.ensures.items ∙ (λ i. take (c.note_row-noted.ensures.start i) (c.note_row-noted.ensures.values i)) ∙ take-append_seam c.args.values.now.items _

pub returns-in_default-clause-fragment : goal.returns-in_default-clause-fragment
returns-in_default-clause-fragment c =
    let edges : List EdgeRows = c.args.edges.now.items in
    let new : List EdgeRows = c.add_place.new.edges.items in
    let place : Place = place_of c.deref.result.now c.note_row-noted.result in
    subst (IsFragment new c.args.notes.now.items) (sym (old_values (goal.at.returns-in_default-clause-fragment c).After-truncate))
    (fragment_same edges new c.args.notes.now.items c.args.values.now.items place c.requires.fragment c.in_default.ensures.err (listing_stays edges new c.requires.fragment.stored place c.in_default.ensures.err))

pub returns-in_default-clause-err : goal.returns-in_default-clause-err
returns-in_default-clause-err c = listing_stays c.args.edges.now.items c.add_place.new.edges.items c.requires.fragment.stored (place_of c.deref.result.now c.note_row-noted.result) c.in_default.ensures.err

pub returns-in_default-clause-taken : goal.returns-in_default-clause-taken
returns-in_default-clause-taken c =
    let edges : List EdgeRows = c.args.edges.now.items in
    let new : List EdgeRows = c.add_place.new.edges.items in
    let now : listing now_in new ≡ listing now_in edges = listing_stays edges new c.requires.fragment.stored (place_of c.deref.result.now c.note_row-noted.result) c.in_default.ensures.err in
    let back : c.truncate.new.self.items ≡ c.args.values.now.items = old_values (goal.at.returns-in_default-clause-taken c).After-truncate in
    λ i. undone (changes_of (c.in_default.ensures.err.shapes i) (back i) c.args.notes.now.items) (now i)
