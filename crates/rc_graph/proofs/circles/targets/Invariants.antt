use Rattle.rc_graph.proofs.Imports.{take, IsColSet}
use Rattle.rc_graph.proofs.CircleLemmas.{AreTargets}
use Rattle.rc_graph.proofs.circles.targets.Given as goal

abbrev pub invariant-loop-edge : goal.invariant-loop-edge
invariant-loop-edge l = record { targets : AreTargets (take l.edge-index l.spec.edges) l.node l.set l.found; set : IsColSet l.found }
