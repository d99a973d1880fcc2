use Rattle.std.proofs.Common.{◌≡◌, drop}
use Rattle.rc_reader.specs.Judging.{first_broken}
use Rattle.rc_reader.proofs.rules.first_broken.Given as goal

abbrev pub invariant-loop-rule : goal.invariant-loop-rule
invariant-loop-rule l = first_broken (drop l.rule-index l.tests) ≡ first_broken l.tests
