use Rattle.std.proofs.Common.{◌≡◌, ◌*◌}
use Rattle.rc_spec.specs.RowEnds.{even_ends}
use Rattle.rc_spec.proofs.row_ends.even.Given as goal

abbrev pub invariant-loop : goal.invariant-loop
invariant-loop l = (l.end ≡ l.counter * l.fn.width) × (l.ends.items ≡ even_ends 0 l.fn.width l.counter)
