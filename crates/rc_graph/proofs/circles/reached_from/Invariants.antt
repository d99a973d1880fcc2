use Rattle.rc_graph.proofs.Imports.{IsColSet, missing}
use Rattle.rc_graph.proofs.CircleLemmas.{AreReached, AreTargets}
use Rattle.rc_graph.proofs.circles.reached_from.Given as goal

abbrev pub invariant-loop-next : goal.invariant-loop-next
invariant-loop-next l = record {
  reached : AreReached l.spec l.node l.reached;
  targets : AreTargets l.spec.edges l.node l.reached l.next;
  set : IsColSet l.next;
}

abbrev pub decreases-loop-next : goal.decreases-loop-next
decreases-loop-next l = missing 32 l.reached
