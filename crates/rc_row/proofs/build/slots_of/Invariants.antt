use Rattle.std.proofs.Common.{◌≡◌, ◌+◌, ◌*◌, ◌++◌, ◌≤◌, length}
use Rattle.rc_row.proofs.Imports.{replicate, flat_map, Empty, spaced}
use Rattle.rc_row.proofs.build.slots_of.Given as goal

abbrev pub invariant-loop : goal.invariant-loop
invariant-loop l = record {
  slots : l.slots.items ≡ flat_map spaced l.fn.fragments.items ++ replicate l.counter Empty;
  long : length l.slots.items ≡ 4 * length l.fn.fragments.items + l.counter;
  room : 1024 + 260 * l.passes ≤ l.slots.cap;
}
