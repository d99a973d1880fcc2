use Rattle.std.proofs.Common.{◌≡◌, ◌++◌, take}
use Rattle.rc_edges.specs.ListMap.{values_in}
use Rattle.rc_edges.proofs.list_map.push_rows.Given as goal

abbrev pub invariant-loop-item : goal.invariant-loop-item
invariant-loop-item l = l.out.items ≡ l.fn.out.items ++ values_in (take l.item-index l.items)
