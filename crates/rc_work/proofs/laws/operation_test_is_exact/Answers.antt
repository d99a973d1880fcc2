use Rattle.rc_work.specs.DeterminedLaws as laws
use Rattle.rc_work.proofs.laws.operation_test_is_exact.Goals as goal

pub returns : goal.returns
returns c = laws.operation_test_is_exact
