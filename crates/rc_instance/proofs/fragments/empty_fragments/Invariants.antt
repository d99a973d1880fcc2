use Rattle.std.proofs.Common.{◌≡◌, length}
use Rattle.rc_instance.proofs.Imports.{In, edge_table, FragmentRows, IsEmptyFragment}
use Rattle.rc_instance.proofs.fragments.empty_fragments.Given as goal

abbrev pub invariant-loop : goal.invariant-loop
invariant-loop l = record {
  count : length l.fragments.items ≡ l.counter;
  empty : (f : FragmentRows) → In f l.fragments.items → IsEmptyFragment (edge_table l.accepted) f;
}
