use Rattle.rc_spec.specs.Calls.{all_columns}
use Rattle.rc_rel.specs.Over.{AreOver}
use Rattle.rc_tests.proofs.judge.agree_all.Given as goal

abbrev pub invariant-loop-entry : goal.invariant-loop-entry
invariant-loop-entry l = AreOver (all_columns l.accepted) l.plain
