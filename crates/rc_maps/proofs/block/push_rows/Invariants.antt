use Rattle.std.proofs.Common.{◌≡◌, ◌+◌, ◌*◌, ◌≤◌, ◌++◌, drop, length, take}
use Rattle.rc_maps.proofs.Imports.{vec_len, vec_capacity, values_in, items_of}
use Rattle.rc_maps.proofs.block.push_rows.Given as goal

abbrev pub invariant-loop-row : goal.invariant-loop-row
invariant-loop-row g l = record {
  items : l.out.items ≡ l.fn.out.items ++ values_in (items_of (take l.row-index l.rows));
  room : vec_len l.out + (g.row.EXTRA + 1) * length (drop l.row-index l.rows) ≤ vec_capacity l.out;
}
