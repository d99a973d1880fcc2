use Rattle.rc_work.proofs.Imports.{length, sym, subst, IsOpAmong, IsOpAmong-shape_op, shape_text, FoundShape}
use Rattle.rc_work.proofs.shapes.take_shape.Goals as goal

pub add_op-requires-clause-known : goal.add_op-requires-clause-known
add_op-requires-clause-known c =
    subst (λ (found : FoundShape). IsOpAmong (length c.args.spec.now.columns) found.op) (sym c.in_ok-found.ensures)
    (IsOpAmong-shape_op c.args.spec.now (shape_text c.args.form))
