use Rattle.std.proofs.Common.{◌≡◌, length}
use Rattle.rc_plan.specs.Resolved.{IsResolvedEdge, AllBelow}
use Rattle.rc_plan.proofs.resolved.resolve_edges.Given as goal

abbrev pub invariant-loop-edge : goal.invariant-loop-edge
invariant-loop-edge l = record {
  room : length l.edges ≡ 24;
  stand : AllBelow (IsResolvedEdge l.accepted) l.edge l.edges;
}
