use Rattle.std.proofs.Common.{◌≡◌, ◌+◌, ◌++◌, take}
use Rattle.std.specs.Vec.{vec_len, vec_capacity}
use Rattle.rc_maps.proofs.block.push_row.Given as goal

abbrev pub invariant-loop-value : goal.invariant-loop-value
invariant-loop-value g l = record {
  items : l.out.items ≡ l.initial.out.items ++ take l.value-index l.value-items;
  len : vec_len l.out ≡ vec_len l.initial.out + l.value-index;
  capacity : vec_capacity l.out ≡ vec_capacity l.initial.out;
}
