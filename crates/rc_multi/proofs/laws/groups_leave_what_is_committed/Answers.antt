use Rattle.rc_multi.specs.CommitLaws.{groups_committed}
use Rattle.rc_multi.proofs.laws.groups_leave_what_is_committed.Goals as goal

pub returns : goal.returns
returns c = groups_committed
