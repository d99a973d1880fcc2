use Rattle.std.proofs.Common.{length, sym, subst}
use Rattle.rc_spec.specs.InRange.{AreBelow}
use Rattle.rc_open.proofs.printing.push_shape.Goals as goal

pub push_columns-requires : goal.push_columns-requires
push_columns-requires c = subst (AreBelow (length c.args.spec.now.columns)) (sym c.list-2.ensures) c.requires.pattern
