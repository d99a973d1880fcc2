use Rattle.std.proofs.Common.{◌≡◌, Some, sym, subst}
use Rattle.rc_fragment.proofs.Imports.{List, slice_set, slice_get, Values, slice_get_in, now_in, IsStored, found_by, PlaceBecomes, key_of, source_of, Becomes, kept_at, EdgeRows}
use Rattle.rc_fragment.proofs.ChangeLemmas.{found_edge, place_changed, place_of_kept, place_of_there}
use Rattle.rc_fragment.proofs.KeptLemmas.{there, there_at, there_by}
use Rattle.rc_fragment.proofs.places.sweep_place.Goals as goal
use Rattle.rc_fragment.proofs.places.sweep_place.Goals.{After-key}

-- the edge is at its number, and keeps its rows
here : (c : After-key) → slice_get c.args.edges.now.items c.args.row.now.edge ≡ Some c.index_mut-edge.result.now
here c = found_edge c.args.edges.now.items c.args.row.now.edge c.index_mut-edge.result.now c.requires.edge c.index_mut-edge.ensures.value

stored : (c : After-key) → IsStored c.index_mut-edge.result.now
stored c = c.requires.stored c.index_mut-edge.result.now (slice_get_in c.args.edges.now.items c.args.row.now.edge c.index_mut-edge.result.now (here c))

-- the noted values, as they were read
read : (c : After-key) → ◌≡◌ {A = Values × Values} (source_of c.args.values.now c.args.row.now, key_of c.args.values.now c.args.row.now) (c.source.result.now, c.key.result.now)
read c = λ i. (sym c.source.ensures i, sym c.key.ensures i)

pub sweep-requires : goal.sweep-requires
sweep-requires c = record { forms = (stored (goal.at.sweep-requires c).After-key).forms }

pub returns : goal.returns
returns c =
    let edges : List EdgeRows = c.args.edges.now.items in
    let e = c.args.row.now.edge in
    let x : EdgeRows = c.index_mut-edge.result.now in
    let y : EdgeRows = c.sweep.new.self in
    let s : Values = c.source.result.now in
    let k : Values = c.key.result.now in
    let at : After-key = (goal.at.returns c).After-key in
    subst (λ (z : Values × Values). PlaceBecomes edges (slice_set edges e y) (e, z.0, z.1) (found_by now_in edges e z.0 z.1)) (sym (read at))
    (subst (PlaceBecomes edges (slice_set edges e y) (e, s, k)) (sym (there_by edges e s k))
    (place_changed edges e x y (here at) c.requires.stored s k there (subst (Becomes x y s k) (there_at x s k) c.sweep.ensures)
    (place_of_there x s k (kept_at x s k) (place_of_kept x (stored at) s k))))
