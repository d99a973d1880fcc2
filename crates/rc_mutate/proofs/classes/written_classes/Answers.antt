use Rattle.std.proofs.Common.{◌<◌, ◌∙◌, arith, ap, sym, length}
use Rattle.rc_mutate.proofs.Imports.{range_with_len, nat_cmp, put, class_of, classes_of_edges, class_below}
use Rattle.rc_mutate.proofs.WriteLemmas.{range_classes_more}
use Rattle.rc_mutate.proofs.classes.written_classes.Goals as goal

pub with-classes-requires : goal.with-classes-requires
with-classes-requires c =
    let known : c.loop-edge.edge < length c.args.spec.now.edges = omega (arith, ap length c.list.ensures) in
    let below : class_of c.args.spec.now c.loop-edge.edge < 16 = class_below c.args.spec.now c.loop-edge.edge c.requires.range c.requires.placed known in
    omega (arith, below, c.class_of.ensures)

pub loop-edge-preserved : goal.loop-edge-preserved
loop-edge-preserved c =
    c.with-classes.ensures.value ∙ ap (put nat_cmp c.class_of.result) c.loop-edge.invariant
    ∙ ap (λ z. put nat_cmp z (classes_of_edges c.args.spec.now (range_with_len 0 c.loop-edge.edge))) c.class_of.ensures
    ∙ sym (range_classes_more c.args.spec.now c.loop-edge.edge)
