use Rattle.std.proofs.Common.{◌≡◌, ◌+◌, take}
use Rattle.std.specs.FinMap as fin
use Rattle.rc_maps.specs.Blocks.{items_in}
use Rattle.rc_maps.proofs.blocks.joined.Given as goal

abbrev pub invariant-loop-block : goal.invariant-loop-block
invariant-loop-block g l = fin.entries l.joined ≡ items_in (take (l.block-index + 1) l.blocks)
