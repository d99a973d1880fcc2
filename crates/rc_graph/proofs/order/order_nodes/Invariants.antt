use Rattle.rc_tuple.specs.GrowthLaws.{missing}
use Rattle.rc_graph.proofs.OrderLemmas.{IsOrderOf}
use Rattle.rc_graph.proofs.order.order_nodes.Given as goal

abbrev pub invariant-loop-node : goal.invariant-loop-node
invariant-loop-node l = IsOrderOf l.spec l.before l.order

abbrev pub decreases-loop-node : goal.decreases-loop-node
decreases-loop-node l = missing 32 l.before
