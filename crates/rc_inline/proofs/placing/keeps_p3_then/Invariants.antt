use Rattle.std.proofs.Common.{◌≡◌, ℕ, ◌<◌, ◌≤◌}
use Rattle.rc_inline.proofs.Imports.{edge_at, class_of, co_placed}
use Rattle.rc_inline.proofs.placing.keeps_p3_then.Given as goal

abbrev pub invariant-loop-other : goal.invariant-loop-other
invariant-loop-other l =
    (e : ℕ) → e < l.other → (edge_at l.accepted e).to ≡ (edge_at l.accepted l.edge).from
    → class_of (co_placed l.accepted) e ≤ class_of (co_placed l.accepted) l.edge
