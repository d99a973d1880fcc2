use Rattle.std.proofs.Common.{◌≡◌, take}
use Rattle.rc_tuple.specs.Tuple.{pick}
use Rattle.rc_tuple.proofs.tuple.Tuple.pick.Given as goal

abbrev pub invariant-loop-col : goal.invariant-loop-col
invariant-loop-col l = l.vals ≡ pick (take l.col-index l.outs) l.self
