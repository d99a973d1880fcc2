use Rattle.std.proofs.Common.{◌≡◌}
use Rattle.rc_mutate.proofs.Imports.{range_with_len, classes_of_edges}
use Rattle.rc_mutate.proofs.classes.written_classes.Given as goal

abbrev pub invariant-loop-edge : goal.invariant-loop-edge
invariant-loop-edge l = l.classes ≡ classes_of_edges l.spec (range_with_len 0 l.edge)
