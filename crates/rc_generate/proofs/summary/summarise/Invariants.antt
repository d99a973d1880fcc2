use Rattle.std.proofs.Common.{◌≡◌, drop}
use Rattle.rc_rel.specs.History.{steps_of}
use Rattle.rc_generate.specs.Summary.{plus_steps, summary}
use Rattle.rc_generate.proofs.summary.summarise.Given as goal

abbrev pub invariant-loop-entry : goal.invariant-loop-entry
invariant-loop-entry l = plus_steps l.summary (steps_of (drop l.entry-index l.history)) ≡ summary l.history l.tuples
