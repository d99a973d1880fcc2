use Rattle.std.proofs.Common.{◌≡◌, drop}
use Rattle.rc_tuple.specs.Tuple.{get}
use Rattle.rc_tuple.proofs.tuple.get_pair.Given as goal

abbrev pub invariant-loop-pair : goal.invariant-loop-pair
invariant-loop-pair l = get (drop l.pair-index l.pairs) l.col ≡ get l.pairs l.col
