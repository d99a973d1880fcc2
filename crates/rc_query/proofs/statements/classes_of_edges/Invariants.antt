use Rattle.std.proofs.Common.{◌≡◌, take}
use Rattle.rc_query.specs.Planned.{classes_of_edges}
use Rattle.rc_query.proofs.statements.classes_of_edges.Given as goal

abbrev pub invariant-loop-edge : goal.invariant-loop-edge
invariant-loop-edge l = l.classes ≡ classes_of_edges l.spec (take l.edge-index l.edges)
