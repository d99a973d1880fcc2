use Rattle.std.proofs.Common.{◌≡◌, ◌+◌, ◌-◌, ◌≤◌, ◌++◌, length, take}
use Rattle.rc_bindings.proofs.Imports.{vec_len, vec_capacity, pick}
use Rattle.rc_bindings.proofs.binding.Binding.push_picked.Given as goal

abbrev pub invariant-loop-col : goal.invariant-loop-col
invariant-loop-col l = record {
  items : l.values.items ≡ l.fn.values.items ++ pick (take l.col-index l.outs) l.self.tuple;
  room : vec_len l.values + (length l.outs - l.col-index) ≤ vec_capacity l.values;
}
