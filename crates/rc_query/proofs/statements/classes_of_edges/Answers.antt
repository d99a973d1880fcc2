use Rattle.std.proofs.Common.{◌<◌, ◌∙◌, arith, ap, sym, get_or, take}
use Rattle.rc_query.proofs.Imports.{nat_cmp, put, get_or_in, class_of, classes_of_edges, class_below, classes_more}
use Rattle.rc_query.proofs.statements.classes_of_edges.Goals as goal

pub with-classes-requires : goal.with-classes-requires
with-classes-requires c =
    let edge = get_or c.args.edges.now c.loop-edge.edge-index 0 in
    let below : class_of c.args.spec.now edge < 16 =
    class_below c.args.spec.now edge c.requires.range c.requires.placed (c.requires.known edge (get_or_in c.args.edges.now c.loop-edge.edge-index 0 c.loop-edge-test.true)) in
    omega (arith, below, c.class_of.ensures)

pub loop-edge-preserved : goal.loop-edge-preserved
loop-edge-preserved c =
    c.with-classes.ensures.value ∙ ap (put nat_cmp c.class_of.result) c.loop-edge.invariant
    ∙ ap (λ z. put nat_cmp z (classes_of_edges c.args.spec.now (take c.loop-edge.edge-index c.args.edges.now))) c.class_of.ensures
    ∙ sym (classes_more c.args.spec.now c.args.edges.now c.loop-edge.edge-index c.loop-edge-test.true)
