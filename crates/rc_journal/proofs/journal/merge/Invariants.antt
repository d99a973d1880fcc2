use Rattle.std.proofs.Common.{◌≡◌, ◌<◌, length}
use Rattle.rc_journal.proofs.Imports.{into_iter_items, into_iter_len, In, Placed, placed_of, with_all}
use Rattle.rc_journal.proofs.journal.merge.Given as goal

abbrev pub invariant-loop-part : goal.invariant-loop-part
invariant-loop-part l = record {
  rest : with_all l.entries.items (placed_of (into_iter_items l.part-iterator)) ≡ with_all l.initial.entries.items (placed_of (into_iter_items l.initial.part-iterator));
  count : into_iter_len l.part-iterator ≡ length (into_iter_items l.part-iterator);
  below : (w : Placed) → In w (placed_of (into_iter_items l.part-iterator)) → w.place < length l.entries.items;
}
