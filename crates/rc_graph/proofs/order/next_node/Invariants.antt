use Rattle.std.proofs.Common.{ℕ, ◌<◌}
use Rattle.rc_spec.specs.Order.{CanBeNext}
use Rattle.rc_graph.proofs.order.next_node.Given as goal

abbrev pub invariant-loop-node : goal.invariant-loop-node
invariant-loop-node l = (v : ℕ) → v < l.node → CanBeNext l.spec l.before v → ⊥
