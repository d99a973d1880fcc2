use Rattle.std.proofs.Common.{◌≡◌, ◌++◌}
use Rattle.rc_dot.proofs.Imports.{flat_map, range_with_len, edge_line}
use Rattle.rc_dot.proofs.graph.push_edges.Given as goal

abbrev pub invariant-loop-edge : goal.invariant-loop-edge
invariant-loop-edge l = l.text.items ≡ l.fn.text.items ++ flat_map (edge_line l.accepted l.plan) (range_with_len 0 l.edge)
