use Rattle.std.proofs.Common.{◌≡◌, ℕ, ap, sym, ◌∙◌}
use Rattle.rc_place.proofs.Imports.{false≢true, Edge, bound, edge_at, edge_at_found, visited, lossless_at}
use Rattle.rc_place.proofs.AdequacyLemmas.{reached_at, reached_back}
use Rattle.rc_place.proofs.adequacy.keeps_a6.Goals as goal

pub returns-then-is_reached : goal.returns-then-is_reached
returns-then-is_reached c =
    let spec = c.args.spec.now in
    let n : ℕ = c.args.number in
    let e : Edge = c.index-edges-number.result in
    let same : edge_at spec n ≡ e = edge_at_found spec c.list-edges.result.now n e c.list-edges.ensures c.requires.known c.index-edges-number.is in
    let lossless =
    lossless_at c.list.result.now spec.deps c.visited.result (visited spec n) c.bound.result (bound spec (edge_at spec n).to)
    c.is_lossless.result c.list.ensures c.visited.ensures (c.bound.ensures ∙ ap (λ (x : Edge). bound spec x.to) (sym same)) c.is_lossless.ensures in (
      λ h. record { reached = reached_at spec c.list-edges.result.now n e c.list-edges.ensures same (c.is_reached.ensures.0 c.if-is_reached.true); lossless = lossless.0 h },
      λ k. lossless.1 k.lossless,
    )

pub returns-else-is_reached : goal.returns-else-is_reached
returns-else-is_reached c =
    let spec = c.args.spec.now in
    let n : ℕ = c.args.number in
    let e : Edge = c.index-edges-number.result in
    let same : edge_at spec n ≡ e = edge_at_found spec c.list-edges.result.now n e c.list-edges.ensures c.requires.known c.index-edges-number.is in (
      λ h. absurd (false≢true (sym c.if-is_reached.false ∙ h)),
      λ k. c.is_reached.ensures.1 (reached_back spec c.list-edges.result.now n e c.list-edges.ensures same k.reached),
    )
