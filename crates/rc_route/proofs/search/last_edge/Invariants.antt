use Rattle.rc_route.specs.Search.{EndsAt, cost_by}
use Rattle.rc_route.proofs.BestLemmas.{IsBestSoFar}
use Rattle.rc_route.proofs.search.last_edge.Given as goal

abbrev pub invariant-loop-edge : goal.invariant-loop-edge
invariant-loop-edge l = IsBestSoFar (EndsAt l.spec l.node) (cost_by l.spec l.pattern l.paths) 18446744073709551615 l.edge l.best l.lowest
