use Rattle.std.proofs.Common.{◌≡◌, ◌+◌, ◌≤◌, ◌++◌, length}
use Rattle.rc_row.proofs.Imports.{filter_map, into_iter_items, into_iter_len, kept_at}
use Rattle.rc_row.proofs.build.taken_back.Given as goal

-- those that were taken out, and those of the slots that are left
abbrev pub invariant-loop-slot : goal.invariant-loop-slot
invariant-loop-slot l = record {
  taken : l.back.items ++ filter_map kept_at (into_iter_items l.slot-iterator) ≡ filter_map kept_at l.fn.slots.items;
  count : into_iter_len l.slot-iterator ≡ length (into_iter_items l.slot-iterator);
  room : length l.back.items + length (filter_map kept_at (into_iter_items l.slot-iterator)) ≤ l.back.cap;
}
