use Rattle.std.proofs.Common.{◌≡◌, ◌+◌, ◌<◌, ◌^◌, Option, Some, sym, subst}
use Rattle.rc_fragment.proofs.Imports.{List, IfOk, OnOk, OnErr, slice_set, slice_get, Values, slice_get_in, Counted, HasExtra, count_of, kept_in, now_in, IsStored, found_by, PlaceBecomes, key_of, noted_extra, source_of, HasValues, row_from, AreSame, IsSingle, kept_at, now_at, EdgeRows}
use Rattle.rc_fragment.proofs.ChangeLemmas.{found_edge, found_there, place_changed, place_of_kept, place_of_row, width_of_row}
use Rattle.rc_fragment.proofs.PlaceLemmas.{set_from_same}
use Rattle.rc_fragment.proofs.RowLemmas.{shape_there}
use Rattle.rc_fragment.proofs.SourcesLemmas.{on_ok_from, on_err_from}
use Rattle.rc_fragment.proofs.places.add_place.Goals as goal
use Rattle.rc_fragment.proofs.places.add_place.Goals.{After-extra}

-- the edge is at its number, and keeps its rows
here : (c : After-extra) → slice_get c.args.edges.now.items c.args.row.now.edge ≡ Some c.index_mut-edge.result.now
here c = found_edge c.args.edges.now.items c.args.row.now.edge c.index_mut-edge.result.now c.requires.edge c.index_mut-edge.ensures.value

stored : (c : After-extra) → IsStored c.index_mut-edge.result.now
stored c = c.requires.stored c.index_mut-edge.result.now (slice_get_in c.args.edges.now.items c.args.row.now.edge c.index_mut-edge.result.now (here c))

-- the noted values, as they were read
abbrev Three : Type 0
Three = Values × Values × Values

read : (c : After-extra) → ◌≡◌ {A = Three} (source_of c.args.values.now c.args.row.now, key_of c.args.values.now c.args.row.now, noted_extra c.args.values.now c.args.row.now) (c.source.result.now, c.key.result.now, c.extra.result.now)
read c = λ i. (sym c.source.ensures i, sym c.key.ensures i, sym c.extra.ensures i)

row_values : (c : After-extra) → HasValues c.index_mut-edge.result.now.shape (row_from c.index_mut-edge.result.now.shape c.source.result.now c.key.result.now c.extra.result.now) c.source.result.now c.key.result.now c.extra.result.now
row_values c =
    let x : EdgeRows = c.index_mut-edge.result.now in
    subst (λ (z : Three). HasValues x.shape (row_from x.shape z.0 z.1 z.2) z.0 z.1 z.2) (read c)
    (c.requires.row.values x.shape (shape_there c.args.edges.now.items c.args.row.now.edge x (here c)))

pub add-requires-clause-forms : goal.add-requires-clause-forms
add-requires-clause-forms c = (stored (goal.at.add-requires-clause-forms c).After-extra).forms

pub add-requires-clause-width : goal.add-requires-clause-width
add-requires-clause-width c =
    let x : EdgeRows = c.index_mut-edge.result.now in
    let at : After-extra = (goal.at.add-requires-clause-width c).After-extra in
    width_of_row x.shape (stored at).parted (row_from x.shape c.source.result.now c.key.result.now c.extra.result.now) c.source.result.now c.key.result.now c.extra.result.now (row_values at)

pub add-requires-clause-room : goal.add-requires-clause-room
add-requires-clause-room c =
    let x : EdgeRows = c.index_mut-edge.result.now in
    let at : After-extra = (goal.at.add-requires-clause-room c).After-extra in
    subst (λ (z : Three). count_of (kept_at x z.0 z.1) < 2 ^ 63) (read at)
    (subst (λ z. count_of z < 2 ^ 63) (sym (found_there kept_in c.args.edges.now.items c.args.row.now.edge x (here at) _ _)) c.requires.room)

pub add-requires-clause-same : goal.add-requires-clause-same
add-requires-clause-same c =
    let x : EdgeRows = c.index_mut-edge.result.now in
    let at : After-extra = (goal.at.add-requires-clause-same c).After-extra in
    subst (λ (z : Three). HasExtra (now_at x z.0 z.1) z.2) (read at)
    (subst (λ z. HasExtra z (noted_extra c.args.values.now c.args.row.now)) (sym (found_there now_in c.args.edges.now.items c.args.row.now.edge x (here at) _ _)) c.requires.row.same)

pub add-requires-clause-single : goal.add-requires-clause-single
add-requires-clause-single c =
    let x : EdgeRows = c.index_mut-edge.result.now in
    let at : After-extra = (goal.at.add-requires-clause-single c).After-extra in
    subst (λ (z : Three). IsSingle x z.0 z.1) (read at) (c.requires.single x (here at))

pub returns-clause-ok : goal.returns-clause-ok
returns-clause-ok c =
    let edges : List EdgeRows = c.args.edges.now.items in
    let e = c.args.row.now.edge in
    let x : EdgeRows = c.index_mut-edge.result.now in
    let y : EdgeRows = c.add.new.self in
    let at : After-extra = (goal.at.returns-clause-ok c).After-extra in
    let f : Values → Option Counted → Option Counted = λ extra o. Some (extra, count_of o + 1) in
    subst (λ (z : Three). OnOk c.add.result (PlaceBecomes edges (slice_set edges e y) (e, z.0, z.1) (f z.2 (found_by kept_in edges e z.0 z.1)))) (sym (read at))
    (on_ok_from _ _ c.add.result c.add.ensures.ok (λ b. place_changed edges e x y (here at) c.requires.stored c.source.result.now c.key.result.now (f c.extra.result.now) b
    (place_of_row x c.source.result.now c.key.result.now c.extra.result.now (count_of (kept_at x c.source.result.now c.key.result.now) + 1) (row_values at))))

pub returns-clause-before : goal.returns-clause-before
returns-clause-before c =
    let edges : List EdgeRows = c.args.edges.now.items in
    let x : EdgeRows = c.index_mut-edge.result.now in
    let at : After-extra = (goal.at.returns-clause-before c).After-extra in
    subst (λ (z : Three). IfOk c.add.result (λ before. before ≡ count_of (found_by kept_in edges c.args.row.now.edge z.0 z.1))) (sym (read at))
    (subst (λ z. IfOk c.add.result (λ before. before ≡ count_of z)) (found_there kept_in edges c.args.row.now.edge x (here at) c.source.result.now c.key.result.now) c.add.ensures.before)

pub returns-clause-err : goal.returns-clause-err
returns-clause-err c =
    let edges : List EdgeRows = c.args.edges.now.items in
    let e = c.args.row.now.edge in
    let x : EdgeRows = c.index_mut-edge.result.now in
    let y : EdgeRows = c.add.new.self in
    let at : After-extra = (goal.at.returns-clause-err c).After-extra in
    let s : Values = c.source.result.now in
    let k : Values = c.key.result.now in
    subst (λ (z : Three). OnErr c.add.result (PlaceBecomes edges (slice_set edges e y) (e, z.0, z.1) (found_by kept_in edges e z.0 z.1))) (sym (read at))
    (on_err_from _ _ c.add.result c.add.ensures.err (λ (a : AreSame x y). place_changed edges e x y (here at) c.requires.stored s k (λ o. o) (record {
      kept = set_from_same (kept_at x) (kept_at y) a.kept s k;
      emptied = a.emptied;
      forms = a.forms;
      shape = a.shape;
    }) (place_of_kept x (stored at) s k)))
