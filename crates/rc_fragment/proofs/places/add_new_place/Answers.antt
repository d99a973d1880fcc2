use Rattle.std.proofs.Common.{◌≡◌, None, Some, sym, subst, ◌∙◌}
use Rattle.rc_fragment.proofs.Imports.{List, IfOk, OnErr, slice_set, slice_get, Values, slice_get_in, kept_in, now_in, IsStored, found_by, IsNewPlace, PlaceBecomes, key_of, noted_extra, source_of, HasValues, row_from, IsSingle, EdgeRows, if_ok}
use Rattle.rc_fragment.proofs.ChangeLemmas.{found_edge, found_there, width_of_row}
use Rattle.rc_fragment.proofs.NewLemmas.{new_place, same_place}
use Rattle.rc_fragment.proofs.RowLemmas.{shape_there}
use Rattle.rc_fragment.proofs.SourcesLemmas.{on_err_from}
use Rattle.rc_fragment.proofs.places.add_new_place.Goals as goal
use Rattle.rc_fragment.proofs.places.add_new_place.Goals.{After-extra}

-- the edge is at its number, and keeps its rows
here : (c : After-extra) → slice_get c.args.edges.now.items c.args.row.now.edge ≡ Some c.index_mut-edge.result.now
here c = found_edge c.args.edges.now.items c.args.row.now.edge c.index_mut-edge.result.now c.requires.edge c.index_mut-edge.ensures.value

stored : (c : After-extra) → IsStored c.index_mut-edge.result.now
stored c = c.requires.stored c.index_mut-edge.result.now (slice_get_in c.args.edges.now.items c.args.row.now.edge c.index_mut-edge.result.now (here c))

-- the noted values, as they were read
abbrev Three : Type 0
Three = Values × Values × Values

read : (c : After-extra) → ◌≡◌ {A = Three} (source_of c.args.values.now c.args.row.now, key_of c.args.values.now c.args.row.now, noted_extra c.args.values.now c.args.row.now) (c.source.result.now, c.key.result.now, c.extra.result.now)
read c = λ i. (sym c.source.ensures i, sym c.key.ensures i, sym c.extra.ensures i)

row_values : (c : After-extra) → HasValues c.index_mut-edge.result.now.shape (row_from c.index_mut-edge.result.now.shape c.source.result.now c.key.result.now c.extra.result.now) c.source.result.now c.key.result.now c.extra.result.now
row_values c =
    let x : EdgeRows = c.index_mut-edge.result.now in
    subst (λ (z : Three). HasValues x.shape (row_from x.shape z.0 z.1 z.2) z.0 z.1 z.2) (read c)
    (c.requires.row x.shape (shape_there c.args.edges.now.items c.args.row.now.edge x (here c)))

pub add_new-requires-clause-forms : goal.add_new-requires-clause-forms
add_new-requires-clause-forms c = (stored (goal.at.add_new-requires-clause-forms c).After-extra).forms

pub add_new-requires-clause-width : goal.add_new-requires-clause-width
add_new-requires-clause-width c =
    let x : EdgeRows = c.index_mut-edge.result.now in
    let at : After-extra = (goal.at.add_new-requires-clause-width c).After-extra in
    width_of_row x.shape (stored at).parted (row_from x.shape c.source.result.now c.key.result.now c.extra.result.now) c.source.result.now c.key.result.now c.extra.result.now (row_values at)

pub add_new-requires-clause-single : goal.add_new-requires-clause-single
add_new-requires-clause-single c none =
    let edges : List EdgeRows = c.args.edges.now.items in
    let e = c.args.row.now.edge in
    let x : EdgeRows = c.index_mut-edge.result.now in
    let at : After-extra = (goal.at.add_new-requires-clause-single c).After-extra in
    subst (λ (z : Three). IsSingle x z.0 z.1) (read at)
    (c.requires.single (subst (λ (z : Three). found_by now_in edges e z.0 z.1 ≡ None) (sym (read at)) (sym (found_there now_in edges e x (here at) c.source.result.now c.key.result.now) ∙ none)) x (here at))

pub returns-clause-ok : goal.returns-clause-ok
returns-clause-ok c =
    let edges : List EdgeRows = c.args.edges.now.items in
    let e = c.args.row.now.edge in
    let x : EdgeRows = c.index_mut-edge.result.now in
    let y : EdgeRows = c.add_new.new.self in
    let at : After-extra = (goal.at.returns-clause-ok c).After-extra in
    subst (λ (z : Three). IfOk c.add_new.result (IsNewPlace edges (slice_set edges e y) (e, z.0, z.1) z.2)) (sym (read at))
    (if_ok c.add_new.result (new_place edges e x y (here at) c.requires.stored c.source.result.now c.key.result.now c.extra.result.now (row_values at)) c.add_new.ensures.ok)

pub returns-clause-err : goal.returns-clause-err
returns-clause-err c =
    let edges : List EdgeRows = c.args.edges.now.items in
    let e = c.args.row.now.edge in
    let x : EdgeRows = c.index_mut-edge.result.now in
    let y : EdgeRows = c.add_new.new.self in
    let at : After-extra = (goal.at.returns-clause-err c).After-extra in
    subst (λ (z : Three). OnErr c.add_new.result (PlaceBecomes edges (slice_set edges e y) (e, z.0, z.1) (found_by kept_in edges e z.0 z.1))) (sym (read at))
    (on_err_from _ _ c.add_new.result c.add_new.ensures.err (same_place edges e x y (here at) c.requires.stored c.source.result.now c.key.result.now c.extra.result.now))
