use Rattle.rc_row.proofs.Imports.{drop, In, stripes_in, holds_taken}
use Rattle.rc_row.proofs.hands.place_of.Given as goal

abbrev pub invariant-loop-i : goal.invariant-loop-i
invariant-loop-i l = In l.stripe (stripes_in (holds_taken (drop l.i l.held.items))) → ⊥
