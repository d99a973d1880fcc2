use Rattle.std.proofs.Common.{◌+◌, ◌-◌, ◌*◌, length}
use Rattle.rc_runner.proofs.calling.+halves.Given as goal

abbrev pub decreases-make_shares : goal.decreases-make_shares
decreases-make_shares g l = 4 * length l.passes.now

abbrev pub decreases-make_both : goal.decreases-make_both
decreases-make_both g l = 4 * (length l.left.now + length l.right.now) - 1

abbrev pub decreases-make_both-first : goal.decreases-make_both-first
decreases-make_both-first g l = 4 * length l.left.now + 1

abbrev pub decreases-make_both-second : goal.decreases-make_both-second
decreases-make_both-second g l = 4 * length l.right.now + 1
