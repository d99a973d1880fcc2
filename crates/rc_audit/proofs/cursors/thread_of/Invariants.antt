use Rattle.std.proofs.Common.{ℕ, ◌<◌}
use Rattle.rc_audit.proofs.Imports.{HasLeft, IsOfThread}
use Rattle.rc_audit.proofs.cursors.thread_of.Given as goal

abbrev pub invariant-loop-thread : goal.invariant-loop-thread
invariant-loop-thread l = (thread : ℕ) → thread < l.thread → HasLeft l.round l.cursors thread → IsOfThread l.place l.line thread → ⊥
