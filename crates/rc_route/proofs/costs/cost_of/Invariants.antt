use Rattle.std.proofs.Common.{◌≡◌, take}
use Rattle.rc_route.specs.Paths.{cost}
use Rattle.rc_route.proofs.costs.cost_of.Given as goal

abbrev pub invariant-loop-edge : goal.invariant-loop-edge
invariant-loop-edge l = l.total ≡ cost l.spec l.pattern (take l.edge-index l.edges)
