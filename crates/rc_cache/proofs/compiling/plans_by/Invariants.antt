use Rattle.std.proofs.Common.{◌+◌, ◌++◌, length}
use Rattle.rc_cache.specs.Extended.{HavePlans}
use Rattle.rc_cache.proofs.compiling.plans_by.Given as goal

-- the own operations have their plans, and so many of the further ones
abbrev pub invariant-loop-op : goal.invariant-loop-op
invariant-loop-op g l = HavePlans l.base (l.base.ops ++ l.ops) (length l.base.ops + l.op-index) l.plans.items
