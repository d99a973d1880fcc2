use Rattle.std.proofs.Common.{◌≡◌, ◌+◌, ◌-◌, ◌≤◌, ◌++◌, length, map}
use Rattle.rc_bindings.proofs.Imports.{vec_len, vec_capacity, columns_below, register}
use Rattle.rc_bindings.proofs.binding.push_registers.Given as goal

abbrev pub invariant-loop-col : goal.invariant-loop-col
invariant-loop-col l = record {
  items : l.values.items ≡ l.fn.values.items ++ map (register l.registers) (columns_below l.cols l.col);
  room : vec_len l.values + (length l.cols - length (columns_below l.cols l.col)) ≤ vec_capacity l.values;
}
