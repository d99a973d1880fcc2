use Rattle.std.proofs.Common.{◌≡◌, take}
use Rattle.rc_embed.proofs.further.begins_with.Given as goal

abbrev pub invariant-loop-at : goal.invariant-loop-at
invariant-loop-at g l = take l.at l.items ≡ take l.at l.first
