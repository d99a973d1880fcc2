use Rattle.std.proofs.Common.{◌≡◌, ℕ, ◌<◌, ◌≤◌}
use Rattle.rc_place.proofs.Imports.{edge_at, class_of}
use Rattle.rc_place.proofs.placement.keeps_p3.Given as goal

abbrev pub invariant-loop-other : goal.invariant-loop-other
invariant-loop-other l = (e : ℕ) → e < l.other → (edge_at l.spec e).to ≡ (edge_at l.spec l.number).from → class_of l.spec e ≤ class_of l.spec l.number
