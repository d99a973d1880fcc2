use Rattle.std.proofs.Common.{◌≡◌, take, map}
use Rattle.rc_tuple.specs.Tuple.{value}
use Rattle.rc_work.proofs.printing.picked.Given as goal

abbrev pub invariant-loop-col : goal.invariant-loop-col
invariant-loop-col l = l.pairs.items ≡ map (λ c. (c, value l.args c)) (take l.col-index l.cols)
