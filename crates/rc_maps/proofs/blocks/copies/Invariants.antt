use Rattle.std.proofs.Common.{◌≡◌, take}
use Rattle.rc_maps.proofs.blocks.copies.Given as goal

abbrev pub invariant-loop-block : goal.invariant-loop-block
invariant-loop-block g l = l.copies.items ≡ take l.block-index l.blocks
