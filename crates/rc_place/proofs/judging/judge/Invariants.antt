use Rattle.rc_place.proofs.Imports.{take, flat_map, IsKept, step_checks, steps, EachHolds}
use Rattle.rc_place.proofs.judging.judge.Given as goal

abbrev pub invariant-loop-step : goal.invariant-loop-step
invariant-loop-step l = EachHolds (IsKept l.spec) (flat_map (step_checks l.spec) (take l.step-index steps))
