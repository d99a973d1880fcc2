use Rattle.std.proofs.Common.{◌≡◌, ℕ, ◌<◌}
use Rattle.rc_check.proofs.Imports.{In, Within, class_at, class_of, Progress, sets_of}
use Rattle.rc_plan.specs.declared.statement.Which.TheVariants as which
use Rattle.rc_check.proofs.cover.has_old_stripes.Given as goal

abbrev pub invariant-loop-edge : goal.invariant-loop-edge
invariant-loop-edge l = (p : Progress) → l.before ≡ sets_of p → (e : ℕ) → e < l.edge → In (class_of l.accepted e, which.Keyed) p.locked → Within (class_at l.accepted (class_of l.accepted e)).cols l.pattern
