use Rattle.std.proofs.Common.{◌≡◌, ◌+◌, ◌*◌, ◌≤◌, ◌++◌, length}
use Rattle.rc_row.proofs.Imports.{flat_map, into_iter_items, into_iter_len, spaced}
use Rattle.rc_row.proofs.build.put_home.Given as goal

-- the slots of those that were put home, and of those that are left
abbrev pub invariant-loop-keep : goal.invariant-loop-keep
invariant-loop-keep l = record {
  put : l.slots.items ++ flat_map spaced (into_iter_items l.keep-iterator) ≡ flat_map spaced l.fn.fragments.items;
  count : into_iter_len l.keep-iterator ≡ length (into_iter_items l.keep-iterator);
  room : length l.slots.items + 4 * length (into_iter_items l.keep-iterator) ≤ l.slots.cap;
  same : l.slots.cap ≡ l.fn.slots.cap;
}
