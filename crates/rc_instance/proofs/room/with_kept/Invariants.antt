use Rattle.std.proofs.Common.{◌≡◌, ◌++◌, ◌≤◌, ◌+◌, length, map}
use Rattle.rc_instance.proofs.Imports.{vec_capacity, into_iter_items, into_iter_len, at_rest}
use Rattle.rc_instance.proofs.room.with_kept.Given as goal

abbrev pub invariant-loop-keep : goal.invariant-loop-keep
invariant-loop-keep l = record {
  rest : l.fragments.items ++ map at_rest (into_iter_items l.keep-iterator) ≡ map at_rest (into_iter_items l.initial.keep-iterator);
  count : into_iter_len l.keep-iterator ≡ length (into_iter_items l.keep-iterator);
  room : length l.fragments.items + length (into_iter_items l.keep-iterator) ≤ vec_capacity l.fragments;
}
