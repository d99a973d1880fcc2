use Rattle.std.proofs.Common.{◌≡◌, take, Some, sym, ap, subst, ◌∙◌}
use Rattle.rc_fragment.proofs.Imports.{List, true, false, slice_get, take-append_seam, slice_get_in, now_in, IsFragment, listing, IsNewPlace, Place, PlaceBecomes, changes_of, kept_at_place, noted_extra, place_of, taken_rows, undone, EdgeRows}
use Rattle.rc_fragment.proofs.ChangeLemmas.{found_edge}
use Rattle.rc_fragment.proofs.NewLemmas.{new_fragment, new_row, new_taken, row_there, single_read, values_read}
use Rattle.rc_fragment.proofs.PlaceLemmas.{fragment_same}
use Rattle.rc_fragment.proofs.RowLemmas.{listing_stays}
use Rattle.rc_fragment.proofs.changes.add_new_noted.Goals as goal
use Rattle.rc_fragment.proofs.changes.add_new_noted.Goals.{After-index, In-Ok}

number : (c : After-index) → slice_get c.args.edges.now.items c.args.edge ≡ Some c.index.result.now
number c = found_edge c.args.edges.now.items c.args.edge c.index.result.now c.requires.known c.index.ensures

pub note_row-noted-requires-clause-parted : goal.note_row-noted-requires-clause-parted
note_row-noted-requires-clause-parted c =
    let edges : List EdgeRows = c.args.edges.now.items in
    (c.requires.fragment.stored c.index.result.now (slice_get_in edges c.args.edge c.index.result.now (number (goal.at.note_row-noted-requires-clause-parted c).After-index))).parted

pub add_new_place-requires-clause-row : goal.add_new_place-requires-clause-row
add_new_place-requires-clause-row c =
    let at = (goal.at.add_new_place-requires-clause-row c).After-index in
    values_read c.args.edges.now.items c.args.notes.now.items c.args.values.now.items c.note_row-noted.new.values.items _ c.deref.result.now c.note_row-noted.ensures.values c.deref.ensures.value c.requires.fragment
    c.args.edge c.index.result.now (number at) c.requires.known c.args.tuple.now c.note_row-noted.result c.note_row-noted.ensures.place c.note_row-noted.ensures.extra c.note_row-noted.ensures.within c.requires.columns c.requires.can

pub add_new_place-requires-clause-single : goal.add_new_place-requires-clause-single
add_new_place-requires-clause-single c none =
    let at = (goal.at.add_new_place-requires-clause-single c).After-index in
    single_read c.args.edges.now.items c.args.notes.now.items c.args.values.now.items c.note_row-noted.new.values.items _ c.deref.result.now c.note_row-noted.ensures.values c.deref.ensures.value c.requires.fragment
    c.args.edge c.index.result.now (number at) c.requires.known c.args.tuple.now c.note_row-noted.result c.note_row-noted.ensures.place c.note_row-noted.ensures.extra c.note_row-noted.ensures.within c.requires.columns c.requires.can none

-- what was done, where it was added and where it wasn't
done : (c : In-Ok) (b : _) → c.in-Ok.added ≡ b → IsNewPlace c.args.edges.now.items c.add_new_place.new.edges.items (place_of c.deref.result.now c.note_row-noted.result) (noted_extra c.deref.result.now c.note_row-noted.result) b
done c b h = subst (IsNewPlace c.args.edges.now.items c.add_new_place.new.edges.items (place_of c.deref.result.now c.note_row-noted.result) (noted_extra c.deref.result.now c.note_row-noted.result)) h c.in-Ok.ensures.ok

pub returns-then-added-clause-fragment : goal.returns-then-added-clause-fragment
returns-then-added-clause-fragment c =
    let at = goal.at.returns-then-added-clause-fragment c in
    subst (λ z. IsFragment c.add_new_place.new.edges.items z c.note_row-noted.new.values.items) (sym c.push_reserved.ensures.items)
    (new_fragment c.args.edges.now.items c.args.notes.now.items c.args.values.now.items c.note_row-noted.new.values.items _ c.deref.result.now c.note_row-noted.ensures.values c.deref.ensures.value c.requires.fragment
    c.args.edge c.index.result.now (number at.After-index) c.requires.known c.args.tuple.now c.note_row-noted.result c.note_row-noted.ensures.place c.note_row-noted.ensures.extra c.note_row-noted.ensures.within c.requires.columns c.requires.can
    c.add_new_place.new.edges.items (done at.In-Ok true c.if-added.true))

pub returns-then-added-clause-ok : goal.returns-then-added-clause-ok
returns-then-added-clause-ok c =
    let at = goal.at.returns-then-added-clause-ok c in
    new_row c.args.edges.now.items c.args.notes.now.items c.args.values.now.items c.note_row-noted.new.values.items _ c.deref.result.now c.note_row-noted.ensures.values c.deref.ensures.value c.requires.fragment
    c.args.edge c.index.result.now (number at.After-index) c.requires.known c.args.tuple.now c.note_row-noted.result c.note_row-noted.ensures.place c.note_row-noted.ensures.extra c.note_row-noted.ensures.within c.requires.columns c.requires.can
    c.add_new_place.new.edges.items (done at.In-Ok true c.if-added.true)

pub returns-then-added-clause-taken : goal.returns-then-added-clause-taken
returns-then-added-clause-taken c =
    let at = goal.at.returns-then-added-clause-taken c in
    ap (λ z. taken_rows c.add_new_place.new.edges.items z c.note_row-noted.new.values.items) c.push_reserved.ensures.items
    ∙ new_taken c.args.edges.now.items c.args.notes.now.items c.args.values.now.items c.note_row-noted.new.values.items _ c.deref.result.now c.note_row-noted.ensures.values c.deref.ensures.value c.requires.fragment
    c.args.edge c.index.result.now (number at.After-index) c.requires.known c.args.tuple.now c.note_row-noted.result c.note_row-noted.ensures.place c.note_row-noted.ensures.extra c.note_row-noted.ensures.within c.requires.columns c.requires.can
    c.add_new_place.new.edges.items (done at.In-Ok true c.if-added.true)

-- ---- it wasn't added

pub returns-in_default-clause-fragment : goal.returns-in_default-clause-fragment
returns-in_default-clause-fragment c =
    let edges : List EdgeRows = c.args.edges.now.items in
    let new : List EdgeRows = c.add_new_place.new.edges.items in
    let back : c.truncate.new.self.items ≡ c.args.values.now.items =
    c.truncate.ensures.items ∙ (λ i. take (c.note_row-noted.ensures.start i) (c.note_row-noted.ensures.values i)) ∙ take-append_seam c.args.values.now.items _ in
    let place : Place = place_of c.deref.result.now c.note_row-noted.result in
    subst (IsFragment new c.args.notes.now.items) (sym back)
    (fragment_same edges new c.args.notes.now.items c.args.values.now.items place c.requires.fragment c.in_default.ensures.err (listing_stays edges new c.requires.fragment.stored place c.in_default.ensures.err))

pub returns-in_default-clause-err : goal.returns-in_default-clause-err
returns-in_default-clause-err c = listing_stays c.args.edges.now.items c.add_new_place.new.edges.items c.requires.fragment.stored (place_of c.deref.result.now c.note_row-noted.result) c.in_default.ensures.err

pub returns-in_default-clause-taken : goal.returns-in_default-clause-taken
returns-in_default-clause-taken c =
    let edges : List EdgeRows = c.args.edges.now.items in
    let new : List EdgeRows = c.add_new_place.new.edges.items in
    let back : c.truncate.new.self.items ≡ c.args.values.now.items =
    c.truncate.ensures.items ∙ (λ i. take (c.note_row-noted.ensures.start i) (c.note_row-noted.ensures.values i)) ∙ take-append_seam c.args.values.now.items _ in
    let now : listing now_in new ≡ listing now_in edges = listing_stays edges new c.requires.fragment.stored (place_of c.deref.result.now c.note_row-noted.result) c.in_default.ensures.err in
    λ i. undone (changes_of (c.in_default.ensures.err.shapes i) (back i) c.args.notes.now.items) (now i)

pub returns-clause-fragment : goal.returns-clause-fragment
returns-clause-fragment c =
    let edges : List EdgeRows = c.args.edges.now.items in
    let new : List EdgeRows = c.add_new_place.new.edges.items in
    let back : c.truncate-2.new.self.items ≡ c.args.values.now.items =
    c.truncate-2.ensures.items ∙ (λ i. take (c.note_row-noted.ensures.start i) (c.note_row-noted.ensures.values i)) ∙ take-append_seam c.args.values.now.items _ in
    let place : Place = place_of c.deref.result.now c.note_row-noted.result in
    let b : PlaceBecomes edges new place (kept_at_place edges place) = (done (goal.at.returns-clause-fragment c).In-Ok false c.if-added.false).1 in
    subst (IsFragment new c.args.notes.now.items) (sym back)
    (fragment_same edges new c.args.notes.now.items c.args.values.now.items place c.requires.fragment b (listing_stays edges new c.requires.fragment.stored place b))

pub returns-clause-ok : goal.returns-clause-ok
returns-clause-ok c =
    let at = goal.at.returns-clause-ok c in
    row_there c.args.edges.now.items c.args.notes.now.items c.args.values.now.items c.note_row-noted.new.values.items _ c.deref.result.now c.note_row-noted.ensures.values c.deref.ensures.value c.requires.fragment
    c.args.edge c.index.result.now (number at.After-index) c.requires.known c.args.tuple.now c.note_row-noted.result c.note_row-noted.ensures.place c.note_row-noted.ensures.extra c.note_row-noted.ensures.within c.requires.columns c.requires.can
    c.add_new_place.new.edges.items (done at.In-Ok false c.if-added.false)

pub returns-clause-taken : goal.returns-clause-taken
returns-clause-taken c =
    let edges : List EdgeRows = c.args.edges.now.items in
    let new : List EdgeRows = c.add_new_place.new.edges.items in
    let back : c.truncate-2.new.self.items ≡ c.args.values.now.items =
    c.truncate-2.ensures.items ∙ (λ i. take (c.note_row-noted.ensures.start i) (c.note_row-noted.ensures.values i)) ∙ take-append_seam c.args.values.now.items _ in
    let place : Place = place_of c.deref.result.now c.note_row-noted.result in
    let b : PlaceBecomes edges new place (kept_at_place edges place) = (done (goal.at.returns-clause-taken c).In-Ok false c.if-added.false).1 in
    let now : listing now_in new ≡ listing now_in edges = listing_stays edges new c.requires.fragment.stored place b in
    λ i. undone (changes_of (b.shapes i) (back i) c.args.notes.now.items) (now i)
