use Rattle.std.proofs.Common.{◌≡◌, ◌++◌, take}
use Rattle.rc_work.specs.CallColumns.{twice}
use Rattle.rc_work.proofs.columns.push_twice.Given as goal

abbrev pub invariant-loop-col : goal.invariant-loop-col
invariant-loop-col l = l.cols ≡ l.fn.cols ++ twice (take l.col-index l.more)
