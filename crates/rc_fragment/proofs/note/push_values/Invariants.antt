use Rattle.std.proofs.Common.{◌≡◌, ◌+◌, ◌++◌, drop, length}
use Rattle.rc_fragment.proofs.Imports.{vec_len, vec_capacity, values_at}
use Rattle.rc_fragment.proofs.note.push_values.Given as goal

abbrev pub invariant-loop-pair : goal.invariant-loop-pair
invariant-loop-pair l = record {
  items : l.out.items ++ values_at l.cols (drop l.pair-index l.row) ≡ l.fn.out.items ++ values_at l.cols l.row;
  len : vec_len l.out + length (values_at l.cols (drop l.pair-index l.row)) ≡ vec_len l.fn.out + length (values_at l.cols l.row);
  capacity : vec_capacity l.out ≡ vec_capacity l.fn.out;
}
