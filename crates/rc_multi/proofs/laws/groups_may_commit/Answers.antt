use Rattle.rc_multi.specs.CommitLaws.{group_holds_no_more, groups_may_commit}
use Rattle.rc_multi.proofs.laws.groups_may_commit.Goals as goal

pub returns-clause-commit : goal.returns-clause-commit
returns-clause-commit c = groups_may_commit

pub returns-clause-no_more : goal.returns-clause-no_more
returns-clause-no_more c = group_holds_no_more
