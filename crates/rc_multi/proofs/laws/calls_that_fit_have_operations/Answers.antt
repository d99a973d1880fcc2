use Rattle.rc_multi.specs.GroupLocksLaws.{have_operations}
use Rattle.rc_multi.proofs.laws.calls_that_fit_have_operations.Goals as goal

pub returns : goal.returns
returns c = have_operations
