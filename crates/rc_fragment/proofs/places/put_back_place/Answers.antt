use Rattle.std.proofs.Common.{◌≡◌, Some, sym, subst}
use Rattle.rc_fragment.proofs.Imports.{IsSome, List, slice_set, slice_get, Values, slice_get_in, kept_in, IsStored, PlaceBecomes, key_of, noted_extra, source_of, HasValues, row_from, kept_at, EdgeRows}
use Rattle.rc_fragment.proofs.ChangeLemmas.{as_many, found_edge, found_there, place_changed, place_of_row}
use Rattle.rc_fragment.proofs.RowLemmas.{shape_there}
use Rattle.rc_fragment.proofs.places.put_back_place.Goals as goal
use Rattle.rc_fragment.proofs.places.put_back_place.Goals.{After-extra}

-- the edge is at its number, and keeps its rows
here : (c : After-extra) → slice_get c.args.edges.now.items c.args.row.now.edge ≡ Some c.index_mut-edge.result.now
here c = found_edge c.args.edges.now.items c.args.row.now.edge c.index_mut-edge.result.now c.requires.noted.edge c.index_mut-edge.ensures.value

stored : (c : After-extra) → IsStored c.index_mut-edge.result.now
stored c = c.requires.stored c.index_mut-edge.result.now (slice_get_in c.args.edges.now.items c.args.row.now.edge c.index_mut-edge.result.now (here c))

-- the noted values, as they were read
abbrev Three : Type 0
Three = Values × Values × Values

read : (c : After-extra) → ◌≡◌ {A = Three} (source_of c.args.values.now c.args.row.now, key_of c.args.values.now c.args.row.now, noted_extra c.args.values.now c.args.row.now) (c.source.result.now, c.key.result.now, c.extra.result.now)
read c = λ i. (sym c.source.ensures i, sym c.key.ensures i, sym c.extra.ensures i)

row_values : (c : After-extra) → HasValues c.index_mut-edge.result.now.shape (row_from c.index_mut-edge.result.now.shape c.source.result.now c.key.result.now c.extra.result.now) c.source.result.now c.key.result.now c.extra.result.now
row_values c =
    let x : EdgeRows = c.index_mut-edge.result.now in
    subst (λ (z : Three). HasValues x.shape (row_from x.shape z.0 z.1 z.2) z.0 z.1 z.2) (read c)
    (c.requires.noted.row x.shape (shape_there c.args.edges.now.items c.args.row.now.edge x (here c)))

pub put_back-requires-clause-forms : goal.put_back-requires-clause-forms
put_back-requires-clause-forms c = (stored (goal.at.put_back-requires-clause-forms c).After-extra).forms

pub put_back-requires-clause-kept : goal.put_back-requires-clause-kept
put_back-requires-clause-kept c =
    let x : EdgeRows = c.index_mut-edge.result.now in
    let at : After-extra = (goal.at.put_back-requires-clause-kept c).After-extra in
    as_many x (stored at) c.source.result.now c.key.result.now c.extra.result.now (row_values at)
    (subst (λ (z : Three). IsSome (kept_at x z.0 z.1)) (read at) (subst IsSome (sym (found_there kept_in c.args.edges.now.items c.args.row.now.edge x (here at) _ _)) c.requires.noted.kept))

pub returns : goal.returns
returns c =
    let edges : List EdgeRows = c.args.edges.now.items in
    let e = c.args.row.now.edge in
    let x : EdgeRows = c.index_mut-edge.result.now in
    let y : EdgeRows = c.put_back.new.self in
    let at : After-extra = (goal.at.returns c).After-extra in
    subst (λ (z : Three). PlaceBecomes edges (slice_set edges e y) (e, z.0, z.1) (Some (z.2, c.args.count))) (sym (read at))
    (place_changed edges e x y (here at) c.requires.stored c.source.result.now c.key.result.now (λ o. Some (c.extra.result.now, c.args.count)) c.put_back.ensures
    (place_of_row x c.source.result.now c.key.result.now c.extra.result.now c.args.count (row_values at)))
