use Rattle.std.proofs.Common.{◌≡◌, ◌++◌, take}
use Rattle.rc_maps.proofs.Imports.{values_in, items_in}
use Rattle.rc_maps.proofs.blocks.push_blocks.Given as goal

abbrev pub invariant-loop-block : goal.invariant-loop-block
invariant-loop-block g l = l.out.items ≡ l.fn.out.items ++ values_in (items_in (take l.block-index l.blocks))
