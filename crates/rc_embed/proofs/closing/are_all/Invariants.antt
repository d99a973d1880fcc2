use Rattle.std.proofs.Common.{◌≡◌, map, take}
use Rattle.rc_embed.proofs.Imports.{range_with_len, number_of}
use Rattle.rc_embed.proofs.closing.are_all.Given as goal

abbrev pub invariant-loop-at : goal.invariant-loop-at
invariant-loop-at l = map number_of (take l.at l.passes) ≡ range_with_len 0 l.at
