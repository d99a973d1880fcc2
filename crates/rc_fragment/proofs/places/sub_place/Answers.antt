use Rattle.std.proofs.Common.{◌≡◌, Some, sym, ap, subst, ◌∙◌}
use Rattle.rc_fragment.proofs.Imports.{IsSome, List, slice_set, slice_get, Values, slice_get_in, count_of, one_less, kept_in, now_in, IsStored, found_by, PlaceBecomes, key_of, source_of, kept_at, now_at, EdgeRows}
use Rattle.rc_fragment.proofs.ChangeLemmas.{found_edge, found_there, place_changed, place_of_kept, place_of_less}
use Rattle.rc_fragment.proofs.places.sub_place.Goals as goal
use Rattle.rc_fragment.proofs.places.sub_place.Goals.{After-key}

-- the edge is at its number, and keeps its rows
here : (c : After-key) → slice_get c.args.edges.now.items c.args.row.now.edge ≡ Some c.index_mut-edge.result.now
here c = found_edge c.args.edges.now.items c.args.row.now.edge c.index_mut-edge.result.now c.requires.edge c.index_mut-edge.ensures.value

stored : (c : After-key) → IsStored c.index_mut-edge.result.now
stored c = c.requires.stored c.index_mut-edge.result.now (slice_get_in c.args.edges.now.items c.args.row.now.edge c.index_mut-edge.result.now (here c))

-- the noted values, as they were read
read : (c : After-key) → ◌≡◌ {A = Values × Values} (source_of c.args.values.now c.args.row.now, key_of c.args.values.now c.args.row.now) (c.source.result.now, c.key.result.now)
read c = λ i. (sym c.source.ensures i, sym c.key.ensures i)

pub sub-requires-clause-forms : goal.sub-requires-clause-forms
sub-requires-clause-forms c = (stored (goal.at.sub-requires-clause-forms c).After-key).forms

pub sub-requires-clause-there : goal.sub-requires-clause-there
sub-requires-clause-there c =
    let x : EdgeRows = c.index_mut-edge.result.now in
    let at : After-key = (goal.at.sub-requires-clause-there c).After-key in
    subst (λ (z : Values × Values). IsSome (now_at x z.0 z.1)) (read at)
    (subst IsSome (sym (found_there now_in c.args.edges.now.items c.args.row.now.edge x (here at) _ _)) c.requires.there)

pub returns-clause-becomes : goal.returns-clause-becomes
returns-clause-becomes c =
    let edges : List EdgeRows = c.args.edges.now.items in
    let e = c.args.row.now.edge in
    let x : EdgeRows = c.index_mut-edge.result.now in
    let y : EdgeRows = c.sub.new.self in
    let at : After-key = (goal.at.returns-clause-becomes c).After-key in
    subst (λ (z : Values × Values). PlaceBecomes edges (slice_set edges e y) (e, z.0, z.1) (one_less (found_by kept_in edges e z.0 z.1))) (sym (read at))
    (place_changed edges e x y (here at) c.requires.stored c.source.result.now c.key.result.now one_less c.sub.ensures.becomes
    (place_of_less x c.source.result.now c.key.result.now (kept_at x c.source.result.now c.key.result.now) (place_of_kept x (stored at) c.source.result.now c.key.result.now)))

pub returns-clause-before : goal.returns-clause-before
returns-clause-before c =
    let x : EdgeRows = c.index_mut-edge.result.now in
    let at : After-key = (goal.at.returns-clause-before c).After-key in
    c.sub.ensures.before ∙ ap (λ (z : Values × Values). count_of (kept_at x z.0 z.1)) (sym (read at))
    ∙ ap count_of (found_there kept_in c.args.edges.now.items c.args.row.now.edge x (here at) _ _)
