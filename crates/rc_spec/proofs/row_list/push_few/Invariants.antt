use Rattle.std.proofs.Common.{◌≡◌, ◌+◌, ◌++◌, ◌≤◌, take, drop, length}
use Rattle.rc_spec.proofs.row_list.push_few.Given as goal

abbrev pub invariant-loop-value : goal.invariant-loop-value
invariant-loop-value l = record {
  items : l.values.items ≡ l.fn.values.items ++ take l.value-index l.row;
  room : length l.values.items + length (drop l.value-index l.row) ≤ l.values.capacity;
}
