use Rattle.std.proofs.Common.{◌≤◌, ◌*◌, ℕ, List, length, take, arith}
use Rattle.rc_route.proofs.Imports.{length-take, get_or_in, cost, cost_few}
use Rattle.rc_route.proofs.EdgeLemmas.{take_in}
use Rattle.rc_route.proofs.costs.cost_of.Goals as goal

pub edge_cost-total-requires-clause-known : goal.edge_cost-total-requires-clause-known
edge_cost-total-requires-clause-known c = c.requires.known _ (get_or_in c.args.edges.now c.loop-edge.edge-index 0 (omega arith))

pub overflow_add-total : goal.overflow_add-total
overflow_add-total c =
    let front : List ℕ = take c.loop-edge.edge-index c.args.edges.now in
    let few : cost c.args.spec.now c.args.pattern front ≤ 288 * length front =
    cost_few c.args.spec.now c.requires.range c.requires.placed c.args.pattern front (λ e m. c.requires.known e (take_in c.args.edges.now c.loop-edge.edge-index e m)) in
    omega (arith, few, c.loop-edge.invariant, length-take c.loop-edge.edge-index c.args.edges.now)

pub returns-clause-few : goal.returns-clause-few
returns-clause-few c =
    let front : List ℕ = take c.loop-edge.edge-index c.args.edges.now in
    let few : cost c.args.spec.now c.args.pattern front ≤ 288 * length front =
    cost_few c.args.spec.now c.requires.range c.requires.placed c.args.pattern front (λ e m. c.requires.known e (take_in c.args.edges.now c.loop-edge.edge-index e m)) in
    omega (arith, few, c.loop-edge.invariant, length-take c.loop-edge.edge-index c.args.edges.now)
