use Rattle.std.proofs.Common.{◌≡◌, ◌++◌, length, take}
use Rattle.std.specs.Vec.Iter.{into_iter_items, into_iter_len}
use Rattle.rc_journal.proofs.PartingLemmas.{HaveOwn}
use Rattle.rc_journal.proofs.parting.part_again.Given as goal

-- so many were moved, and these are left
abbrev pub invariant-loop-entry : goal.invariant-loop-entry
invariant-loop-entry l = record {
  left : take l.place l.fn.journal ++ into_iter_items l.entry-iterator ≡ l.fn.journal;
  place : length (take l.place l.fn.journal) ≡ l.place;
  count : into_iter_len l.entry-iterator ≡ length (into_iter_items l.entry-iterator);
  parts : length l.parts.items ≡ length l.fn.parts.items;
  own : HaveOwn (take l.place l.fn.journal) l.fn.journal l.parts.items;
}
