use Rattle.std.proofs.Common.{◌≡◌, ◌++◌, drop}
use Rattle.rc_tuple.specs.Tuple.{merges_of}
use Rattle.rc_plan.proofs.evaluation.push_merges.Given as goal

-- what was merged and what is left to merge is the whole
abbrev pub invariant-loop-tuple : goal.invariant-loop-tuple
invariant-loop-tuple l = l.merges.items ++ merges_of l.binding (drop l.tuple-index l.tuples) ≡ l.fn.merges.items ++ merges_of l.binding l.tuples
