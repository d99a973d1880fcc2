use Rattle.std.proofs.Common.{◌≡◌, ◌++◌}
use Rattle.rc_dot.proofs.Imports.{flat_map, range_with_len, number_line}
use Rattle.rc_dot.proofs.tables.push_number_lines.Given as goal

abbrev pub invariant-loop-place : goal.invariant-loop-place
invariant-loop-place l = l.text.items ≡ l.fn.text.items ++ flat_map number_line (range_with_len 0 l.place)
