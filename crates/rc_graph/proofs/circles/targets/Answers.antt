use Rattle.std.proofs.Common.{◌≡◌, ◌<◌, ◌≤◌, ◌+◌, length, take, inl, inr, sym, ap, subst, ◌∙◌, arith}
use Rattle.rc_graph.proofs.Imports.{false≢true, in_has, has_in, IsColSet}
use Rattle.rc_graph.proofs.EdgeLemmas.{at_hand, at_in, passed_whole}
use Rattle.rc_graph.proofs.CircleLemmas.{AreTargets, targets_more, targets_same}
use Rattle.rc_graph.proofs.circles.targets.Goals as goal
use Rattle.rc_graph.proofs.circles.targets.Goals.{then-edge-node, then-edge-node-via-then-edge-node, then-edge-node-via-else-edge-node+then-has, else-edge-node+else-has}

pub with-found-requires : goal.with-found-requires
with-found-requires c =
    let known : c.edge-item.result.to < length c.args.spec.now.nodes =
    (c.requires.known_edges c.edge-item.result (at_in c.args.spec.now.edges c.loop-edge.edge-index c.edge-item.result
    (at_hand c.list-edge-items.result.now c.args.spec.now.edges c.loop-edge.edge-index c.edge-item.result c.list-edge-items.ensures c.loop-edge-test.true c.edge-item.is))).to in
    let few : length c.args.spec.now.nodes ≤ 16 = c.requires.nodes in omega arith

pub loop-edge-preserved : goal.loop-edge-preserved
loop-edge-preserved c = record {
  targets = elim c.if-edge-node.branch [
    | then-edge-node w ↦ subst (AreTargets (take (c.loop-edge.edge-index + 1) c.args.spec.now.edges) c.args.node c.args.set) (sym (w.found-is ∙ w.with-found.ensures.value))
        (targets_more c.args.spec.now.edges c.args.node c.args.set c.loop-edge.found c.loop-edge.edge-index c.edge-item.result
        (at_hand c.list-edge-items.result.now c.args.spec.now.edges c.loop-edge.edge-index c.edge-item.result c.list-edge-items.ensures c.loop-edge-test.true c.edge-item.is) c.loop-edge.invariant.targets
        (elim w.then-edge-node.branch [
          | then-edge-node-via-then-edge-node v ↦ inl v.if-edge-node.true
          | then-edge-node-via-else-edge-node+then-has v ↦ inr (in_has c.args.set c.edge-item.result.from (sym v.has.ensures.found ∙ v.if-has.true))
        ]))
    | else-edge-node+else-has w ↦ subst (AreTargets (take (c.loop-edge.edge-index + 1) c.args.spec.now.edges) c.args.node c.args.set) (sym w.found-is)
        (targets_same c.args.spec.now.edges c.args.node c.args.set c.loop-edge.found c.loop-edge.edge-index c.edge-item.result
        (at_hand c.list-edge-items.result.now c.args.spec.now.edges c.loop-edge.edge-index c.edge-item.result c.list-edge-items.ensures c.loop-edge-test.true c.edge-item.is) c.loop-edge.invariant.targets
        (λ begins. elim begins [
          | inl e ↦ w.if-edge-node.false e
          | inr m ↦ false≢true (sym (sym w.has.ensures.found ∙ w.if-has.false) ∙ has_in c.args.set c.edge-item.result.from m)
        ]))
  ];
  set = elim c.if-edge-node.branch [
    | then-edge-node w ↦ subst IsColSet (sym w.found-is) w.with-found.ensures.set
    | else-edge-node+else-has w ↦ subst IsColSet (sym w.found-is) c.loop-edge.invariant.set
  ];
}

pub returns-clause-members : goal.returns-clause-members
returns-clause-members c =
    let end : c.loop-edge.edge-index ≡ length c.args.spec.now.edges = omega (arith, ap length c.list-edge-items.ensures) in
    subst (λ edges. AreTargets edges c.args.node c.args.set c.loop-edge.found) (passed_whole c.args.spec.now.edges c.loop-edge.edge-index end) c.loop-edge.invariant.targets
