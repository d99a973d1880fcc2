use Rattle.std.proofs.Common.{◌≡◌, ◌++◌, take}
use Rattle.rc_dot.proofs.Imports.{flat_map, number_text}
use Rattle.rc_dot.proofs.graph.push_numbers.Given as goal

abbrev pub invariant-loop-number : goal.invariant-loop-number
invariant-loop-number l = l.text.items ≡ l.fn.text.items ++ flat_map number_text (take l.number-index l.numbers)
