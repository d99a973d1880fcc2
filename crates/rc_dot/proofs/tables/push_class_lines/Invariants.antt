use Rattle.std.proofs.Common.{◌≡◌, ◌++◌}
use Rattle.rc_dot.proofs.Imports.{flat_map, range_with_len, class_line}
use Rattle.rc_dot.proofs.tables.push_class_lines.Given as goal

abbrev pub invariant-loop-class : goal.invariant-loop-class
invariant-loop-class l = l.text.items ≡ l.fn.text.items ++ flat_map (class_line l.accepted) (range_with_len 0 l.class)
