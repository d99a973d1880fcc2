use Rattle.std.proofs.Common.{sym, subst}
use Rattle.rc_tuple.specs.RisingSet.{In}
use Rattle.rc_tuple.specs.RisingSetLaws.{get_or_in}
use Rattle.rc_spec.specs.declared.items.Op.{Op}
use Rattle.rc_open.proofs.printing.print_shapes.Goals as goal

pub push_shape-requires : goal.push_shape-requires
push_shape-requires c =
    c.requires c.shape-item.result
    (subst (λ (op : Op). In op c.args.shapes.now) (sym c.shape-item.is)
    (get_or_in c.args.shapes.now c.loop-shape.shape-index c.shape-item.result c.loop-shape-test.true))
