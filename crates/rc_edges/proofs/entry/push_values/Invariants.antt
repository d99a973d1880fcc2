use Rattle.std.proofs.Common.{◌≡◌, ◌+◌, ◌++◌, take}
use Rattle.std.specs.Vec.{vec_len, vec_capacity}
use Rattle.rc_edges.proofs.entry.push_values.Given as goal

abbrev pub invariant-loop-value : goal.invariant-loop-value
invariant-loop-value l = record {
  items : l.out.items ≡ l.fn.out.items ++ take l.value-index l.values;
  len : vec_len l.out ≡ vec_len l.fn.out + l.value-index;
  capacity : vec_capacity l.out ≡ vec_capacity l.fn.out;
}
