use Rattle.std.proofs.Common.{◌≡◌, ◌++◌, take, drop}
use Rattle.rc_tuple.proofs.Imports.{put, pair_cmp}
use Rattle.rc_tuple.proofs.tuple.place_of_pair.Given as goal

abbrev pub invariant-loop-at : goal.invariant-loop-at
invariant-loop-at l = put pair_cmp l.pair l.pairs ≡ take l.at l.pairs ++ put pair_cmp l.pair (drop l.at l.pairs)
