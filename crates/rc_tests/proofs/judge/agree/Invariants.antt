use Rattle.rc_spec.specs.Calls.{all_columns}
use Rattle.rc_rel.specs.Over.{AreOver}
use Rattle.rc_tests.proofs.judge.agree.Given as goal

abbrev pub invariant-loop-step : goal.invariant-loop-step
invariant-loop-step l = AreOver (all_columns l.accepted) l.plain
