use Rattle.std.proofs.Common.{◌≡◌, ℕ, ◌<◌}
use Rattle.rc_bindings.proofs.Imports.{In, register}
use Rattle.rc_bindings.proofs.binding.compare.Given as goal

abbrev pub invariant-loop-col : goal.invariant-loop-col
invariant-loop-col l = (k : ℕ) → In k l.cols → k < l.col → register l.registers k ≡ register l.others k
