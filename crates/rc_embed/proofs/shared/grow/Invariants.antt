use Rattle.std.proofs.Common.{◌-◌, length}
use Rattle.rc_embed.proofs.shared.grow.Given as goal

abbrev pub decreases-loop-alloc : goal.decreases-loop-alloc
decreases-loop-alloc l = l.count - length l.calls.items
