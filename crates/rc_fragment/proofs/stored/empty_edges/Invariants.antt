use Rattle.std.proofs.Common.{◌≡◌}
use Rattle.rc_fragment.proofs.Imports.{map, range_with_len, shape_of, AreEmpty, shapes}
use Rattle.rc_fragment.proofs.stored.empty_edges.Given as goal

abbrev pub invariant-loop-number : goal.invariant-loop-number
invariant-loop-number l = record {
  shapes : shapes l.edges.items ≡ map (shape_of l.accepted) (range_with_len 0 l.number);
  empty : AreEmpty l.edges.items;
}
