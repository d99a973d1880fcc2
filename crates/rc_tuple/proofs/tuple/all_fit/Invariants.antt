use Rattle.std.proofs.Common.{◌≡◌, take, true}
use Rattle.rc_tuple.specs.Tuple.{agrees}
use Rattle.rc_tuple.proofs.tuple.all_fit.Given as goal

abbrev pub invariant-loop-pair : goal.invariant-loop-pair
invariant-loop-pair l = agrees (take l.pair-index l.pairs) l.others ≡ true
