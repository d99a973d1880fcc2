use Rattle.std.proofs.Common.{sym, ap, length, ◌∙◌, inl, inr, arith, below_more}
use Rattle.rc_graph.proofs.Imports.{false≢true, cases_lt, in_has, has_in}
use Rattle.rc_graph.proofs.order.next_node.Goals as goal
use Rattle.rc_graph.proofs.order.next_node.Goals.{else-not-has-via-then-not-has+else-are_sources_before, else-not-has-via-else-not-has}

pub returns-then-are_sources_before-clause-next : goal.returns-then-are_sources_before-clause-next
returns-then-are_sources_before-clause-next c = record {
  can = record {
    known = omega (arith, ap length c.list.ensures);
    new = λ m. false≢true (c.if-not-has.ensures.found ∙ has_in c.args.before c.loop-node.node m);
    sources = c.are_sources_before.ensures.0 c.if-are_sources_before.true;
  };
  first = λ w can. elim (cases_lt w c.loop-node.node) [ inl l ↦ absurd (c.loop-node.invariant w l can) | inr l ↦ l ];
}

pub loop-node-preserved : goal.loop-node-preserved
loop-node-preserved c =
    below_more _ _ c.loop-node.invariant
    (λ can. elim c.else-not-has.branch [
      | else-not-has-via-then-not-has+else-are_sources_before w ↦ false≢true (sym w.if-are_sources_before.false ∙ w.are_sources_before.ensures.1 can.sources)
      | else-not-has-via-else-not-has w ↦ can.new (in_has c.args.before c.loop-node.node (sym c.has.ensures.found ∙ w.if-not-has.false))
    ])

pub returns-clause-none : goal.returns-clause-none
returns-clause-none c = λ v can. c.loop-node.invariant v (omega (arith, can.known, ap length c.list.ensures)) can
