use Rattle.std.proofs.Common.{◌≡◌, ◌<◌, ℕ}
use Rattle.rc_bindings.proofs.Imports.{In, get}
use Rattle.rc_bindings.proofs.binding.Binding.agrees_on.Given as goal

abbrev pub invariant-loop-col : goal.invariant-loop-col
invariant-loop-col l = (k : ℕ) → In k l.cols → k < l.col → get l.self.tuple k ≡ get l.other k
