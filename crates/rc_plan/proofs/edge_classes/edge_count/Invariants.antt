use Rattle.std.proofs.Common.{◌≡◌, ◌==◌, filter, length}
use Rattle.rc_plan.proofs.Imports.{range_with_len, class_of}
use Rattle.rc_plan.proofs.edge_classes.edge_count.Given as goal

abbrev pub invariant-loop-edge : goal.invariant-loop-edge
invariant-loop-edge l = l.count ≡ length (filter (λ e. class_of l.spec e == l.class) (range_with_len 0 l.edge))
