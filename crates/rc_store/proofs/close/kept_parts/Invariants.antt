use Rattle.std.proofs.Common.{◌≡◌, ◌+◌, ◌≤◌, ◌++◌, length}
use Rattle.rc_store.proofs.Imports.{into_iter_items, into_iter_len, parts_in}
use Rattle.rc_store.proofs.close.kept_parts.Given as goal

-- those that were taken, and those of the passes that are left
abbrev pub invariant-loop-pass : goal.invariant-loop-pass
invariant-loop-pass l = record {
  parts : l.parts.items ++ parts_in (into_iter_items l.pass-iterator) ≡ parts_in l.fn.ended.items;
  count : into_iter_len l.pass-iterator ≡ length (into_iter_items l.pass-iterator);
  room : length l.parts.items + length (into_iter_items l.pass-iterator) ≤ l.parts.cap;
}
