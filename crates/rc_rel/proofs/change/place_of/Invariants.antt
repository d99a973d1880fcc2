use Rattle.std.proofs.Common.{◌≡◌, ◌++◌, take, drop}
use Rattle.rc_rel.proofs.Imports.{put, tuple_cmp}
use Rattle.rc_rel.proofs.change.place_of.Given as goal

abbrev pub invariant-loop-at : goal.invariant-loop-at
invariant-loop-at l = put tuple_cmp l.tuple l.tuples ≡ take l.at l.tuples ++ put tuple_cmp l.tuple (drop l.at l.tuples)
