use Rattle.std.proofs.Common.{◌≡◌, drop}
use Rattle.rc_generate.specs.Summary.{plus_steps}
use Rattle.rc_generate.proofs.summary.Summary.count_all.Given as goal

abbrev pub invariant-loop-step : goal.invariant-loop-step
invariant-loop-step l = plus_steps l.self (drop l.step-index l.steps) ≡ plus_steps l.fn.self l.steps
