use Rattle.std.proofs.Common.{◌≡◌, ◌++◌}
use Rattle.rc_open.proofs.extending.push_all.Given as goal

-- those so far, and those that are left
abbrev pub invariant-loop-op : goal.invariant-loop-op
invariant-loop-op l = l.ops ++ l.op-iterator.rest.items ≡ l.fn.ops ++ l.fn.more
