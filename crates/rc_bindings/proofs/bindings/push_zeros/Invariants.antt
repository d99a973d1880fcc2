use Rattle.std.proofs.Common.{◌+◌, ◌-◌, ◌≤◌}
use Rattle.rc_bindings.proofs.Imports.{vec_len, vec_capacity, HasMore}
use Rattle.rc_bindings.proofs.bindings.push_zeros.Given as goal

abbrev pub invariant-loop : goal.invariant-loop
invariant-loop l = record {
  more : HasMore l.counter l.fn.registers.items l.registers.items;
  room : vec_len l.registers + (l.width - l.counter) ≤ vec_capacity l.registers;
}
