use Rattle.rc_multi.specs.GroupLocksLaws.{group_locks_suffice}
use Rattle.rc_multi.proofs.laws.group_locks_suffice.Goals as goal

pub returns : goal.returns
returns c = group_locks_suffice
