use Rattle.std.proofs.Common.{◌≡◌, length}
use Rattle.rc_plan.proofs.Imports.{class_edges, AllBelow}
use Rattle.rc_plan.proofs.edge_classes.edge_counts.Given as goal

abbrev pub invariant-loop-class : goal.invariant-loop-class
invariant-loop-class l = record {
  room : length l.counts ≡ 16;
  stand : AllBelow (λ class count. count ≡ length (class_edges l.accepted class)) l.class l.counts;
}
