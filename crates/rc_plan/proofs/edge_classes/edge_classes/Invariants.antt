use Rattle.std.proofs.Common.{◌≡◌, ◌≤◌, length}
use Rattle.rc_plan.proofs.Imports.{range_with_len, AreEdgeCounts, classes_kept, classes_of}
use Rattle.rc_plan.proofs.edge_classes.edge_classes.Given as goal

abbrev pub invariant-loop-edge : goal.invariant-loop-edge
invariant-loop-edge l = record {
  room : length l.found.classes ≡ 24;
  few : l.found.len ≤ l.edge;
  classes : classes_kept l.found ≡ classes_of l.accepted (range_with_len 0 l.edge);
  counts : AreEdgeCounts l.accepted l.found.counts;
}
