use Rattle.std.proofs.Common.{◌≡◌, ◌++◌, ◌≤◌, ◌+◌, length, map}
use Rattle.rc_instance.proofs.Imports.{AllByRecursion, vec_capacity, into_iter_items, into_iter_len, IsAtRest, kept_rows}
use Rattle.rc_instance.proofs.room.kept_in.Given as goal

abbrev pub invariant-loop-fragment : goal.invariant-loop-fragment
invariant-loop-fragment l = record {
  rest : l.room.items ++ map kept_rows (into_iter_items l.fragment-iterator) ≡ map kept_rows (into_iter_items l.initial.fragment-iterator);
  count : into_iter_len l.fragment-iterator ≡ length (into_iter_items l.fragment-iterator);
  room : length l.room.items + length (into_iter_items l.fragment-iterator) ≤ vec_capacity l.room;
  each : AllByRecursion IsAtRest (into_iter_items l.fragment-iterator);
}
