use Rattle.std.proofs.Common.{◌<◌, sym, subst}
use Rattle.rc_graph.proofs.Imports.{with_column, missing}
use Rattle.rc_graph.proofs.OrderLemmas.{IsOrderOf, order_more, missing_next, order_whole}
use Rattle.rc_graph.proofs.order.order_nodes.Goals as goal

pub loop-node-smaller : goal.loop-node-smaller
loop-node-smaller c =
    subst (λ z. missing 32 z < missing 32 c.loop-node.before) (sym c.with-before.ensures.value)
    (missing_next c.args.spec.now c.loop-node.before c.in-Some.node c.requires.range c.in-Some.ensures.next)

pub loop-node-preserved : goal.loop-node-preserved
loop-node-preserved c =
    subst (λ before. IsOrderOf c.args.spec.now before c.push.new.self) (sym c.with-before.ensures.value)
    (subst (IsOrderOf c.args.spec.now (with_column c.loop-node.before c.in-Some.node)) (sym c.in_ok-push.ensures.ok)
    (order_more c.args.spec.now c.loop-node.before c.loop-node.order c.in-Some.node c.loop-node.invariant c.in-Some.ensures.next))

pub returns : goal.returns
returns c = order_whole c.args.spec.now c.loop-node.before c.loop-node.order c.requires.range c.requires.no_circle c.in_default.ensures.none c.loop-node.invariant
