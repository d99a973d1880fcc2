use Rattle.std.proofs.Common.{◌≡◌, ◌<◌, ℕ, length, arith, ap}
use Rattle.rc_route.proofs.Imports.{Edge, edge_at, edge_at_found}
use Rattle.rc_route.proofs.GoodLemmas.{step_found}
use Rattle.rc_route.proofs.good.is_step.Goals as goal

pub returns : goal.returns
returns c =
    let spec = c.args.spec.now in
    let n : ℕ = c.args.number in
    let e : Edge = c.index-edges-number.result in
    let l : n < length spec.edges = omega (arith, ap length c.list-edges.ensures) in
    let same : edge_at spec n ≡ e = edge_at_found spec c.list-edges.result.now n e c.list-edges.ensures l c.index-edges-number.is in
    step_found spec c.args.reached c.args.visited n e c.can_be_read.result same l c.can_be_read.ensures
