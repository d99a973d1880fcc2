use Rattle.std.proofs.Common.{◌≡◌, length}
use Rattle.rc_inline.specs.Inlining.{inlined}
use Rattle.rc_inline.proofs.inlining.inline.Given as goal

abbrev pub invariant-loop-edge : goal.invariant-loop-edge
invariant-loop-edge l = inlined l.inlined ≡ inlined l.fn.accepted

abbrev pub decreases-loop-edge : goal.decreases-loop-edge
decreases-loop-edge l = length l.inlined.edges
