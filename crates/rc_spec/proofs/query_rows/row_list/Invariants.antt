use Rattle.std.proofs.Common.{◌≡◌, map}
use Rattle.rc_spec.proofs.query_rows.row_list.Given as goal

abbrev pub invariant-loop-row : goal.invariant-loop-row
invariant-loop-row l = l.list ≡ map (λ row. row.items) l.yielded
