use Rattle.std.proofs.Common.{◌≡◌}
use Rattle.rc_bindings.proofs.Imports.{hash_of, columns_below}
use Rattle.rc_bindings.proofs.binding.Binding.hash_of.Given as goal

abbrev pub invariant-loop-col : goal.invariant-loop-col
invariant-loop-col l = l.hash ≡ hash_of (columns_below l.cols l.col) l.self.tuple
