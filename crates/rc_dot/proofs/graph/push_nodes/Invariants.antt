use Rattle.std.proofs.Common.{◌≡◌, ◌++◌, take}
use Rattle.rc_dot.proofs.Imports.{flat_map, node_line}
use Rattle.rc_dot.proofs.graph.push_nodes.Given as goal

abbrev pub invariant-loop-node : goal.invariant-loop-node
invariant-loop-node l = l.text.items ≡ l.fn.text.items ++ flat_map (node_line l.spec) (take l.node-index l.node-items)
