use Rattle.std.proofs.Common.{◌≡◌, ◌++◌, take}
use Rattle.rc_work.specs.Printed.{bounds_given}
use Rattle.rc_work.proofs.printing.push_bounds.Given as goal

abbrev pub invariant-loop-range : goal.invariant-loop-range
invariant-loop-range l = l.pairs.items ≡ l.fn.pairs.items ++ bounds_given (take l.range-index l.ranges)
