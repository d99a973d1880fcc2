use Rattle.rc_multi.specs.GroupLocksLaws.{group_locks_below}
use Rattle.rc_multi.proofs.laws.group_locks_lie_inside.Goals as goal

pub returns : goal.returns
returns c = group_locks_below
