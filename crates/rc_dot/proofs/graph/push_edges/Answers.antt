use Rattle.std.proofs.Common.{◌∙◌, ◌++◌, ap, arith}
use Rattle.rc_dot.specs.Dot.{drawn_edge, edge_line}
use Rattle.rc_dot.proofs.DotLemmas.{range_more}
use Rattle.rc_dot.proofs.graph.push_edges.Goals as goal

pub loop-edge-preserved : goal.loop-edge-preserved
loop-edge-preserved c =
    let spec = c.args.accepted.now in
    let plan = c.args.plan.now in
    let edge = c.loop-edge.edge in
    c.in_ok-push_edge.ensures ∙ ap (λ numbers. c.loop-edge.text.items ++ drawn_edge spec edge numbers) (c.deref.ensures.value ∙ c.in_ok-numbers.ensures)
    ∙ ap (λ l. l ++ edge_line spec plan edge) c.loop-edge.invariant
    ∙ range_more (edge_line spec plan) c.args.text.now.items 0 edge edge (omega arith)
