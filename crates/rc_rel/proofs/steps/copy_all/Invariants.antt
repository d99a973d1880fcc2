use Rattle.std.proofs.Common.{◌≡◌, ◌≤◌, take, length, vec_capacity}
use Rattle.rc_rel.proofs.steps.copy_all.Given as goal

abbrev pub invariant-loop-step : goal.invariant-loop-step
invariant-loop-step l = (l.copy.items ≡ take l.step-index l.steps.items) × (length l.steps.items ≤ vec_capacity l.copy)
