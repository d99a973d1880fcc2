use Rattle.rc_route.specs.Search.{Binds, cost_to}
use Rattle.rc_route.proofs.BestLemmas.{IsBestSoFar}
use Rattle.rc_route.proofs.search.last_node.Given as goal

abbrev pub invariant-loop-node : goal.invariant-loop-node
invariant-loop-node l = IsBestSoFar (Binds l.spec l.need) (cost_to l.spec l.pattern l.paths) 18446744073709551615 l.node l.best l.least
