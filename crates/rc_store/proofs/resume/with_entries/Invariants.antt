use Rattle.std.proofs.Common.{◌≡◌, ◌+◌, ◌≤◌, ◌++◌, length, map}
use Rattle.rc_store.proofs.Imports.{into_iter_items, into_iter_len, kept_pass}
use Rattle.rc_store.proofs.resume.with_entries.Given as goal

-- those that were put, and those of the parts that are left
abbrev pub invariant-loop-part : goal.invariant-loop-part
invariant-loop-part l = record {
  ended : l.ended.items ++ map kept_pass (into_iter_items l.part-iterator) ≡ map kept_pass l.fn.parts.items;
  count : into_iter_len l.part-iterator ≡ length (into_iter_items l.part-iterator);
  room : length l.ended.items + length (into_iter_items l.part-iterator) ≤ l.ended.cap;
}
