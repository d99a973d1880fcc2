use Rattle.std.proofs.Common.{ℕ, ◌<◌}
use Rattle.rc_inline.proofs.Imports.{KeepsP3, co_placed}
use Rattle.rc_inline.proofs.placing.are_ordered_then.Given as goal

abbrev pub invariant-loop-edge : goal.invariant-loop-edge
invariant-loop-edge l = (f : ℕ) → f < l.edge → KeepsP3 (co_placed l.accepted) f
