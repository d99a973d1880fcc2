use Rattle.std.proofs.Common.{◌≡◌, ◌<◌, ◌+◌, ℕ, List, [], ◌∷◌, ◌++◌, length, get_or, take, arith, ap, sym, subst, ◌∙◌}
use Rattle.rc_route.proofs.Imports.{set, edge_at, IsFirstLeast, EndsAt, cost_by, path_at}
use Rattle.rc_route.proofs.BestLemmas.{IsTable, table_start, table_root, table_step}
use Rattle.rc_route.proofs.search.least_paths.Goals as goal
use Rattle.rc_route.proofs.search.least_paths.Goals.{in-Some+in_ok-paths-2, in_default}

pub loop-node-init : goal.loop-node-init
loop-node-init c = table_start c.args.spec.now c.args.pattern c.args.order.now c.in_ok-paths.paths.items c.in_ok-paths.ensures.count c.in_ok-paths.ensures.empty

pub loop-node-preserved : goal.loop-node-preserved
loop-node-preserved c =
    let spec = c.args.spec.now in
    let k : ℕ = c.loop-node.node-index in
    let l : k < length c.args.order.now = omega arith in
    elim c.match-last_edge.branch [
      | in-Some+in_ok-paths-2 w ↦
          let paths : List (List ℕ) = c.loop-node.paths.items in
          let node : ℕ = get_or c.args.order.now k 0 in
          let best : IsFirstLeast (EndsAt spec node) (cost_by spec c.args.pattern paths) (length spec.edges) w.in-Some.edge =
          subst (λ z. IsFirstLeast (EndsAt spec node) (cost_by spec c.args.pattern z) (length spec.edges) w.in-Some.edge) c.deref.ensures.value w.in-Some.ensures in
          let path : w.in_ok-paths-2.field-0 ≡ path_at paths (edge_at spec w.in-Some.edge).from ++ w.in-Some.edge ∷ [] =
          w.in_ok-paths-2.ensures ∙ ap (λ z. path_at z (edge_at spec w.in-Some.edge).from ++ w.in-Some.edge ∷ []) w.deref-in-Some.ensures.value in
          let next : IsTable spec c.args.pattern (take (k + 1) c.args.order.now) (set paths node w.in_ok-paths-2.field-0) =
          subst (λ z. IsTable spec c.args.pattern (take (k + 1) c.args.order.now) (set paths node z)) (sym path)
          (table_step spec c.requires.sealed c.args.pattern c.args.order.now c.requires.order paths k w.in-Some.edge l best c.loop-node.invariant) in
          rw w.paths-is next
      | in_default w ↦
          let same : IsTable spec c.args.pattern (take (k + 1) c.args.order.now) c.loop-node.paths.items =
          table_root spec c.requires.sealed c.args.pattern c.args.order.now c.loop-node.paths.items k l w.in_default.ensures c.loop-node.invariant in
          rw w.paths-is same
    ]
