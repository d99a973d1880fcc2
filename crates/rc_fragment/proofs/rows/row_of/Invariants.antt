use Rattle.std.proofs.Common.{◌≡◌}
use Rattle.rc_fragment.specs.RowValues.{row_from}
use Rattle.rc_fragment.proofs.BesideLemmas.{values_below}
use Rattle.rc_fragment.proofs.rows.row_of.Given as goal

abbrev pub invariant-loop-col : goal.invariant-loop-col
invariant-loop-col l = l.vals.items ≡ values_below l.shape.target (row_from l.shape l.source l.key l.extra) l.col
