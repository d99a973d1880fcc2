use Rattle.std.proofs.Common.{◌≡◌, ◌++◌, take}
use Rattle.rc_fragment.specs.RowValues.{values_at}
use Rattle.rc_machine.proofs.edge_row.push_values.Given as goal

abbrev pub invariant-loop-pair : goal.invariant-loop-pair
invariant-loop-pair l = l.values.items ≡ l.fn.values.items ++ values_at l.cols (take l.pair-index l.pair-items)
