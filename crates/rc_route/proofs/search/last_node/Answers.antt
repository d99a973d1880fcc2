use Rattle.std.proofs.Common.{◌≡◌, ◌<◌, ◌≤◌, ◌+◌, ℕ, [], Some, length, arith, ap, sym, subst, ◌∙◌, refl}
use Rattle.rc_route.proofs.Imports.{false≢true, In, get_or_in, Within, within_from_test, test_from_within, at_found, IsPathFromRoot, cost, Binds, cost_to, path_at}
use Rattle.rc_route.proofs.BestLemmas.{IsBestSoFar, best_passes, best_takes, best_keeps, path_edges, path_few}
use Rattle.rc_route.proofs.search.last_node.Goals as goal
use Rattle.rc_route.proofs.search.last_node.Goals.{then-within+then-price-least, then-within+else-price-least, else-within}

pub cost_of-price-requires-clause-known : goal.cost_of-price-requires-clause-known
cost_of-price-requires-clause-known c = λ e m.
    let begin : IsPathFromRoot c.args.spec.now c.index-paths-node.result =
    c.requires.paths c.index-paths-node.result (subst (λ p. In p c.args.paths.now) (sym c.index-paths-node.is) (get_or_in c.args.paths.now c.loop-node.node c.index-paths-node.result (omega (arith, c.requires.count, ap length c.list.ensures)))) in
    path_edges c.args.spec.now c.index-paths-node.result begin e (subst (In e) c.list-then-within.ensures m)

pub cost_of-price-requires-clause-short : goal.cost_of-price-requires-clause-short
cost_of-price-requires-clause-short c =
    let begin : IsPathFromRoot c.args.spec.now c.index-paths-node.result =
    c.requires.paths c.index-paths-node.result (subst (λ p. In p c.args.paths.now) (sym c.index-paths-node.is) (get_or_in c.args.paths.now c.loop-node.node c.index-paths-node.result (omega (arith, c.requires.count, ap length c.list.ensures)))) in
    let few : length c.index-paths-node.result ≤ 16 = path_few c.args.spec.now c.requires.sealed c.index-paths-node.result begin in omega (arith, ap length c.list-then-within.ensures)

pub loop-node-preserved : goal.loop-node-preserved
loop-node-preserved c =
    let spec = c.args.spec.now in
    let n : ℕ = c.loop-node.node in
    let l : n < length c.args.paths.now = omega (arith, c.requires.count, ap length c.list.ensures) in
    elim c.if-within.branch [
      | then-within+then-price-least w ↦
          let path : path_at c.args.paths.now n ≡ w.index-paths-node.result = at_found c.args.paths.now c.args.paths.now n [] w.index-paths-node.result refl l w.index-paths-node.is in
          subst (λ b. IsBestSoFar (Binds spec c.args.need) (cost_to spec c.args.pattern c.args.paths.now) 18446744073709551615 (n + 1) b c.if-within.least) (sym w.best-is)
          (subst (λ p. IsBestSoFar (Binds spec c.args.need) (cost_to spec c.args.pattern c.args.paths.now) 18446744073709551615 (n + 1) (Some n) p) (sym w.least-is)
          (best_takes (Binds spec c.args.need) (cost_to spec c.args.pattern c.args.paths.now) 18446744073709551615 n c.loop-node.best c.loop-node.least w.cost_of-price.result
          (subst (Within c.args.need) c.bound.ensures (within_from_test c.args.need c.bound.result (sym c.within.ensures.found ∙ w.if-within.true)))
          (w.cost_of-price.ensures.value ∙ ap (cost spec c.args.pattern) (w.list-then-within.ensures ∙ sym path)) w.if-price-least.true c.loop-node.invariant))
      | then-within+else-price-least w ↦
          let path : path_at c.args.paths.now n ≡ w.index-paths-node.result = at_found c.args.paths.now c.args.paths.now n [] w.index-paths-node.result refl l w.index-paths-node.is in
          let few : w.cost_of-price.result ≤ 4608 = w.cost_of-price.ensures.few in
          subst (λ b. IsBestSoFar (Binds spec c.args.need) (cost_to spec c.args.pattern c.args.paths.now) 18446744073709551615 (n + 1) b c.if-within.least) (sym w.best-is)
          (subst (λ p. IsBestSoFar (Binds spec c.args.need) (cost_to spec c.args.pattern c.args.paths.now) 18446744073709551615 (n + 1) c.loop-node.best p) (sym w.least-is)
          (best_keeps (Binds spec c.args.need) (cost_to spec c.args.pattern c.args.paths.now) 18446744073709551615 n c.loop-node.best c.loop-node.least w.cost_of-price.result
          (w.cost_of-price.ensures.value ∙ ap (cost spec c.args.pattern) (w.list-then-within.ensures ∙ sym path)) (omega arith) w.if-price-least.false c.loop-node.invariant))
      | else-within w ↦
          subst (λ b. IsBestSoFar (Binds spec c.args.need) (cost_to spec c.args.pattern c.args.paths.now) 18446744073709551615 (n + 1) b c.if-within.least) (sym w.best-is)
          (subst (λ p. IsBestSoFar (Binds spec c.args.need) (cost_to spec c.args.pattern c.args.paths.now) 18446744073709551615 (n + 1) c.loop-node.best p) (sym w.least-is)
          (best_passes (Binds spec c.args.need) (cost_to spec c.args.pattern c.args.paths.now) 18446744073709551615 n c.loop-node.best c.loop-node.least
          (λ b. false≢true (sym w.if-within.false ∙ c.within.ensures.found ∙ test_from_within c.args.need c.bound.result (subst (Within c.args.need) (sym c.bound.ensures) b))) c.loop-node.invariant))
    ]
