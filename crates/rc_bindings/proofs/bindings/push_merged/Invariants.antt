use Rattle.std.proofs.Common.{◌≡◌, ◌+◌, ◌-◌, ◌≤◌, ◌++◌, length, take}
use Rattle.rc_bindings.proofs.Imports.{vec_len, vec_capacity, given, all_written, columns_below}
use Rattle.rc_bindings.proofs.bindings.push_merged.Given as goal

abbrev pub invariant-loop-col : goal.invariant-loop-col
invariant-loop-col l = record {
  keys : l.keys ≡ length (columns_below l.key l.col);
  extras : l.extras ≡ length (columns_below l.extra l.col);
  few_keys : l.keys ≤ l.col;
  few_extras : l.extras ≤ l.col;
  items : l.registers.items ≡ l.fn.registers.items ++ take l.col (all_written (given l.key l.key_values l.extra l.extra_values) l.held);
  capacity : vec_capacity l.registers ≡ vec_capacity l.fn.registers;
  room : vec_len l.registers + (length l.held - l.col) ≤ vec_capacity l.registers;
}
