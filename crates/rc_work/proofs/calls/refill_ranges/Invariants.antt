use Rattle.std.proofs.Common.{◌≡◌, ◌*◌, ◌++◌, drop}
use Rattle.rc_work.specs.CallColumns.{ranges_of}
use Rattle.rc_work.proofs.calls.refill_ranges.Given as goal

-- the ranges so far, and those that are left
abbrev pub invariant-loop-at : goal.invariant-loop-at
invariant-loop-at l = l.ranges ++ ranges_of (drop l.at l.cols) (drop (2 * l.at) l.bounds) ≡ ranges_of l.cols l.bounds
