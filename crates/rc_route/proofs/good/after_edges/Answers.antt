use Rattle.std.proofs.Common.{◌≡◌, ◌<◌, ◌≤◌, ℕ, List, ◌+◌, ◌++◌, length, drop, get_or, arith, sym, ap, subst, ◌∙◌, ◌↔◌}
use Rattle.rc_route.proofs.Imports.{union, with_column, Edge, bound, edge_at, IsEdgeAmong, IsStep, IsGoodFrom}
use Rattle.rc_route.proofs.GoodLemmas.{good_more, both_ways}
use Rattle.rc_route.proofs.good.after_edges.Goals as goal

pub with-reached-requires : goal.with-reached-requires
with-reached-requires c =
    let spec = c.args.spec.now in
    let n : ℕ = get_or c.args.edges.now c.loop-edge.edge-index 0 in
    let e : Edge = c.edge.result.now in
    let step : IsStep spec c.loop-edge.reached c.loop-edge.visited n = c.is_step.ensures.0 c.if-not-is_step.false in
    let known : IsEdgeAmong (length spec.nodes) (length spec.columns) e = c.edge.ensures.known c.requires in
    let to : e.to < length spec.nodes = known.to in
    let few : length spec.nodes ≤ 16 = c.requires.nodes in omega arith

pub bound-requires : goal.bound-requires
bound-requires c =
    let spec = c.args.spec.now in
    let n : ℕ = get_or c.args.edges.now c.loop-edge.edge-index 0 in
    let e : Edge = c.edge.result.now in
    let step : IsStep spec c.loop-edge.reached c.loop-edge.visited n = c.is_step.ensures.0 c.if-not-is_step.false in
    let known : IsEdgeAmong (length spec.nodes) (length spec.columns) e = c.edge.ensures.known c.requires in
    let to : e.to < length spec.nodes = known.to in omega arith

pub loop-edge-preserved : goal.loop-edge-preserved
loop-edge-preserved c = λ need rest.
    let spec = c.args.spec.now in
    let i : ℕ = c.loop-edge.edge-index in
    let edges : List ℕ = c.args.edges.now in
    let n : ℕ = get_or edges i 0 in
    let e : Edge = c.edge.result.now in
    let l : i < length edges = omega arith in
    let step : IsStep spec c.loop-edge.reached c.loop-edge.visited n = c.is_step.ensures.0 c.if-not-is_step.false in
    let same : e ≡ edge_at spec n = c.edge.ensures.value in
    let to : e.to ≡ (edge_at spec n).to = ap (λ (z : Edge). z.to) same in
    let reached : c.with-reached.result ≡ with_column c.loop-edge.reached (edge_at spec n).to = c.with-reached.ensures.value ∙ ap (with_column c.loop-edge.reached) to in
    let visited : c.union-visited.result ≡ union c.loop-edge.visited (bound spec (edge_at spec n).to) = c.union-visited.ensures.value ∙ ap (union c.loop-edge.visited) (c.bound.ensures ∙ ap (bound spec) to) in
    let more = good_more spec need c.loop-edge.reached c.loop-edge.visited edges rest i l step in
    subst (λ z. IsGoodFrom spec need c.args.before.reached c.args.before.visited (edges ++ rest) ↔ IsGoodFrom spec need z c.union-visited.result (drop (i + 1) edges ++ rest)) (sym reached)
    (subst (λ z. IsGoodFrom spec need c.args.before.reached c.args.before.visited (edges ++ rest) ↔ IsGoodFrom spec need (with_column c.loop-edge.reached (edge_at spec n).to) z (drop (i + 1) edges ++ rest)) (sym visited)
    (both_ways (c.loop-edge.invariant need rest) more))
