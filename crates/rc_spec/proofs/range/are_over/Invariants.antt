use Rattle.std.proofs.Common.{◌≡◌, take, map}
use Rattle.rc_spec.specs.Ranges.{range_column}
use Rattle.rc_spec.proofs.range.are_over.Given as goal

abbrev pub invariant-loop-at : goal.invariant-loop-at
invariant-loop-at l = map range_column (take l.at l.ranges) ≡ take l.at l.cols
