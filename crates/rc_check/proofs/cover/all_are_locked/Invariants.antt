use Rattle.std.proofs.Common.{◌≡◌, ℕ, ◌<◌}
use Rattle.rc_check.proofs.Imports.{class_of, Progress, IsLocked, sets_of}
use Rattle.rc_check.proofs.cover.all_are_locked.Given as goal

abbrev pub invariant-loop-edge : goal.invariant-loop-edge
invariant-loop-edge l = (p : Progress) → l.before ≡ sets_of p → (e : ℕ) → e < l.edge → IsLocked p (class_of l.accepted e)
