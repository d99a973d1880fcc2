use Rattle.std.proofs.Common.{◌≡◌, ℕ, sym, ap, ◌∙◌}
use Rattle.rc_place.proofs.Imports.{Edge, edge_at, source_and_key, striping}
use Rattle.rc_place.proofs.PlacementLemmas.{within_at}
use Rattle.rc_place.proofs.placement.keeps_p2.Goals as goal

pub returns : goal.returns
returns c =
    let spec = c.args.spec.now in
    let n : ℕ = c.args.number in
    let same : edge_at spec n ≡ c.edge-edge.result.now =
    sym c.edge-edge.ensures.value in
    within_at c.striping.result (striping spec n) c.source_and_key.result (source_and_key spec (edge_at spec n)) c.within.result c.within.ensures.found
    c.striping.ensures (c.source_and_key.ensures ∙ ap (λ (e : Edge). source_and_key spec e) (sym same))
