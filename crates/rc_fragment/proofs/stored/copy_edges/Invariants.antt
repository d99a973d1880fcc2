use Rattle.std.proofs.Common.{take}
use Rattle.rc_fragment.proofs.CopyLemmas.{AreSameEdges}
use Rattle.rc_fragment.proofs.stored.copy_edges.Given as goal

abbrev pub invariant-loop-edge : goal.invariant-loop-edge
invariant-loop-edge l = AreSameEdges (take l.edge-index l.edge-items) l.copy.items
