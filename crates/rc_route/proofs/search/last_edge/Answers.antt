use Rattle.std.proofs.Common.{◌<◌, ◌+◌, ℕ, Some, length, arith, ap, sym, subst, ◌∙◌}
use Rattle.rc_route.proofs.Imports.{Edge, EndsAt, cost_by}
use Rattle.rc_route.proofs.BestLemmas.{IsBestSoFar, best_passes, best_takes, best_keeps}
use Rattle.rc_route.proofs.search.last_edge.Goals as goal
use Rattle.rc_route.proofs.search.last_edge.Goals.{then-edge-node+then-price-lowest, then-edge-node+else-price-lowest, else-edge-node}

pub loop-edge-preserved : goal.loop-edge-preserved
loop-edge-preserved c =
    let spec = c.args.spec.now in
    let n : ℕ = c.loop-edge.edge in
    let l : n < length spec.edges = omega (arith, ap length c.list.ensures) in
    let to = ap (λ (e : Edge). e.to) c.edge.ensures.value in
    elim c.if-edge-node.branch [
      | then-edge-node+then-price-lowest w ↦
          subst (λ b. IsBestSoFar (EndsAt spec c.args.node) (cost_by spec c.args.pattern c.args.paths.now) 18446744073709551615 (n + 1) b c.if-edge-node.lowest) (sym w.best-is)
          (subst (λ p. IsBestSoFar (EndsAt spec c.args.node) (cost_by spec c.args.pattern c.args.paths.now) 18446744073709551615 (n + 1) (Some n) p) (sym w.lowest-is)
          (best_takes (EndsAt spec c.args.node) (cost_by spec c.args.pattern c.args.paths.now) 18446744073709551615 n c.loop-edge.best c.loop-edge.lowest w.cost_by-price.result
          (sym to ∙ w.if-edge-node.true) w.cost_by-price.ensures.value w.if-price-lowest.true c.loop-edge.invariant))
      | then-edge-node+else-price-lowest w ↦
          subst (λ b. IsBestSoFar (EndsAt spec c.args.node) (cost_by spec c.args.pattern c.args.paths.now) 18446744073709551615 (n + 1) b c.if-edge-node.lowest) (sym w.best-is)
          (subst (λ p. IsBestSoFar (EndsAt spec c.args.node) (cost_by spec c.args.pattern c.args.paths.now) 18446744073709551615 (n + 1) c.loop-edge.best p) (sym w.lowest-is)
          (best_keeps (EndsAt spec c.args.node) (cost_by spec c.args.pattern c.args.paths.now) 18446744073709551615 n c.loop-edge.best c.loop-edge.lowest w.cost_by-price.result
          w.cost_by-price.ensures.value w.cost_by-price.ensures.few w.if-price-lowest.false c.loop-edge.invariant))
      | else-edge-node w ↦
          subst (λ b. IsBestSoFar (EndsAt spec c.args.node) (cost_by spec c.args.pattern c.args.paths.now) 18446744073709551615 (n + 1) b c.if-edge-node.lowest) (sym w.best-is)
          (subst (λ p. IsBestSoFar (EndsAt spec c.args.node) (cost_by spec c.args.pattern c.args.paths.now) 18446744073709551615 (n + 1) c.loop-edge.best p) (sym w.lowest-is)
          (best_passes (EndsAt spec c.args.node) (cost_by spec c.args.pattern c.args.paths.now) 18446744073709551615 n c.loop-edge.best c.loop-edge.lowest
          (λ e. w.if-edge-node.false (to ∙ e)) c.loop-edge.invariant))
    ]
