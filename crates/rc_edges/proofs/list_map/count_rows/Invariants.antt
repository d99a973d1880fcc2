use Rattle.std.proofs.Common.{◌≡◌, ◌≤◌, take}
use Rattle.rc_edges.specs.ListMap.{count_in}
use Rattle.rc_edges.proofs.list_map.count_rows.Given as goal

abbrev pub invariant-loop-item : goal.invariant-loop-item
invariant-loop-item l = (l.count ≡ count_in (take l.item-index l.items)) × (l.count ≤ l.item-index)
