use Rattle.std.proofs.Common.{◌≡◌}
use Rattle.rc_tuple.specs.TupleLaws.{zip_below}
use Rattle.rc_tuple.proofs.tuple.zipped.Given as goal

abbrev pub invariant-loop-col : goal.invariant-loop-col
invariant-loop-col l = l.pairs.items ≡ zip_below l.cols l.vals l.col
