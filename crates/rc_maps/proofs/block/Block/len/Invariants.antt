use Rattle.std.proofs.Common.{◌≡◌, ◌≤◌, take}
use Rattle.rc_maps.proofs.Imports.{count_in, items_of}
use Rattle.rc_maps.proofs.block.Block.len.Given as goal

abbrev pub invariant-loop-row : goal.invariant-loop-row
invariant-loop-row g l = record { count : l.count ≡ count_in (items_of (take l.row-index l.row-items)); within : l.count ≤ l.row-index }
