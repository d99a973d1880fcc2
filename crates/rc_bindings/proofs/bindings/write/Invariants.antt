use Rattle.std.proofs.Common.{◌≡◌, ◌++◌, List, ℕ, drop, length, take}
use Rattle.rc_bindings.proofs.Imports.{project, all_written}
use Rattle.rc_bindings.proofs.bindings.write.Given as goal

-- what was written and what is left to write is the whole
abbrev pub invariant-loop-pair : goal.invariant-loop-pair
invariant-loop-pair l = record {
  row : List ℕ;
  beside : l.registers ≡ take l.start l.fn.registers ++ row;
  width : length row ≡ length (drop l.start l.fn.registers);
  whole : all_written (project l.cols (drop l.pair-index l.pairs)) row ≡ all_written (project l.cols l.pairs) (drop l.start l.fn.registers);
}
