use Rattle.std.proofs.Common.{length, sym, ap, ◌∙◌, subst}
use Rattle.rc_spec.specs.InRange.{AreBelow, HasOutsAmong}
use Rattle.rc_spec.specs.Ranges.{range_columns}
use Rattle.rc_open.proofs.printing.push_behind.Goals as goal

pub push_ranges-requires : goal.push_ranges-requires
push_ranges-requires c =
    subst (AreBelow (length c.args.spec.now.columns)) (ap range_columns c.in-Query.is ∙ sym c.list.ensures) c.requires.ranges

pub push_columns-requires : goal.push_columns-requires
push_columns-requires c =
    subst (AreBelow (length c.args.spec.now.columns)) (sym c.list-in-Query.ensures)
    (subst (HasOutsAmong (length c.args.spec.now.columns)) c.in-Query.is c.requires.outs)
