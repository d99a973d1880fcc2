use Rattle.std.proofs.Common.{◌≡◌, ◌<◌, length}
use Rattle.rc_journal.proofs.Imports.{into_iter_items, into_iter_len, In, Placed, with_all}
use Rattle.rc_journal.proofs.journal.put_part.Given as goal

abbrev pub invariant-loop-placed : goal.invariant-loop-placed
invariant-loop-placed l = record {
  rest : with_all l.entries (into_iter_items l.placed-iterator) ≡ with_all l.initial.entries (into_iter_items l.initial.placed-iterator);
  count : into_iter_len l.placed-iterator ≡ length (into_iter_items l.placed-iterator);
  below : (w : Placed) → In w (into_iter_items l.placed-iterator) → w.place < length l.entries;
}
