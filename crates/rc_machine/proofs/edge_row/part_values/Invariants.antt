use Rattle.std.proofs.Common.{◌≡◌, ◌+◌, ◌≤◌, drop, length, take, vec_capacity, vec_len}
use Rattle.rc_fragment.specs.RowValues.{values_at}
use Rattle.rc_machine.proofs.edge_row.part_values.Given as goal

abbrev pub invariant-loop-pair : goal.invariant-loop-pair
invariant-loop-pair l = record {
  source : l.source_values.items ≡ values_at l.source (take l.pair-index l.pairs);
  key : l.key_values.items ≡ values_at l.key (take l.pair-index l.pairs);
  source_room : vec_len l.source_values + length (drop l.pair-index l.pairs) ≤ vec_capacity l.source_values;
  key_room : vec_len l.key_values + length (drop l.pair-index l.pairs) ≤ vec_capacity l.key_values;
}
