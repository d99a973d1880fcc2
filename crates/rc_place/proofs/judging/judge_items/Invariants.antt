use Rattle.std.proofs.Common.{ℕ, ◌<◌}
use Rattle.rc_place.proofs.Imports.{IsKept, item_checks, step, EachHolds}
use Rattle.rc_place.proofs.judging.judge_items.Given as goal

abbrev pub invariant-loop-number : goal.invariant-loop-number
invariant-loop-number l = (n : ℕ) → n < l.number → EachHolds (IsKept l.spec) (item_checks (step l.kind l.rules) n)
