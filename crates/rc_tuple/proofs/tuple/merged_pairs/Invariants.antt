use Rattle.std.proofs.Common.{◌≡◌, take}
use Rattle.rc_tuple.specs.Tuple.{merge}
use Rattle.rc_tuple.proofs.tuple.merged_pairs.Given as goal

abbrev pub invariant-loop-pair : goal.invariant-loop-pair
invariant-loop-pair l = l.all.items ≡ merge l.pairs (take l.pair-index l.others)
