use Rattle.std.proofs.Common.{ℕ, ◌+◌, ◌<◌, ◌⊎◌}
use Rattle.rc_check.proofs.Imports.{In, Within, dep_at}
use Rattle.rc_check.proofs.checks.all_are_checked.Given as goal

abbrev pub invariant-loop-place : goal.invariant-loop-place
invariant-loop-place l = (k : ℕ) → k < l.place → Within l.pattern (dep_at l.spec (k + 1)).left ⊎ In k l.before.checked
