use Rattle.std.proofs.Common.{◌≡◌, take}
use Rattle.rc_spec.proofs.row_list.RowList.equals.Given as goal

abbrev pub invariant-loop-at : goal.invariant-loop-at
invariant-loop-at l = take l.at l.self ≡ take l.at l.other
