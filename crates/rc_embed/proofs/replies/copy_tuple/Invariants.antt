use Rattle.std.proofs.Common.{◌≡◌, ◌++◌, take, drop}
use Rattle.rc_embed.specs.Replies.{values_of}
use Rattle.rc_embed.proofs.replies.copy_tuple.Given as goal

abbrev pub invariant-loop-at : goal.invariant-loop-at
invariant-loop-at l = l.out ≡ take l.at (values_of l.tuple) ++ drop l.at l.fn.out
