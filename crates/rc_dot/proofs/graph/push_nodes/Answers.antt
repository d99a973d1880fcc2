use Rattle.rc_dot.proofs.Imports.{List, sym, subst, In, get_or_in, Node}
use Rattle.rc_dot.proofs.graph.push_nodes.Goals as goal

pub push_node-requires : goal.push_node-requires
push_node-requires c =
    c.requires.known_nodes c.node-item.result
    (subst (λ (items : List Node). In c.node-item.result items) c.list-node-items.ensures
    (subst (λ (x : Node). In x c.list-node-items.result.now) (sym c.node-item.is) (get_or_in c.list-node-items.result.now c.loop-node.node-index c.node-item.result c.loop-node-test.true)))
