use Rattle.std.proofs.Common.{◌≡◌, ◌+◌, ◌≤◌, drop, length, take}
use Rattle.rc_fragment.proofs.Imports.{vec_len, vec_capacity, extra_columns}
use Rattle.rc_fragment.proofs.PartLemmas.{AreParted}
use Rattle.rc_fragment.proofs.note.push_parts.Given as goal

abbrev pub invariant-loop-pair : goal.invariant-loop-pair
invariant-loop-pair l = record {
  extra : l.extra ≡ extra_columns l.shape;
  parted : AreParted l.shape l.fn.values.items (take l.pair-index l.row) l.values.items l.key_start l.extra_start;
  len : vec_len l.values + length (drop l.pair-index l.row) ≤ vec_len l.fn.values + length l.row;
  capacity : vec_capacity l.values ≡ vec_capacity l.fn.values;
}
