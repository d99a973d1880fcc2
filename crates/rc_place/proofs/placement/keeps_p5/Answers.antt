use Rattle.std.proofs.Common.{◌≡◌, ℕ, sym, ap, ◌∙◌}
use Rattle.rc_place.proofs.Imports.{Edge, bound, edge_at, striping}
use Rattle.rc_place.proofs.PlacementLemmas.{not_hash, within_at, p5_within}
use Rattle.rc_place.proofs.placement.keeps_p5.Goals as goal

pub returns-in-Ordered : goal.returns-in-Ordered
returns-in-Ordered c =
    let spec = c.args.spec.now in
    let n : ℕ = c.args.number in
    let same : edge_at spec n ≡ c.edge-edge.result.now =
    sym c.edge-edge.ensures.value in
    p5_within spec n c.within.result (λ hash. not_hash c.edge-edge.result.now.kind c.in-Ordered.is (ap (λ (e : Edge). e.kind) (sym same) ∙ hash))
    (within_at c.striping.result (striping spec n) c.bound.result (bound spec (edge_at spec n).from) c.within.result c.within.ensures.found
    c.striping.ensures (c.bound.ensures ∙ ap (λ (e : Edge). bound spec e.from) (sym same)))
