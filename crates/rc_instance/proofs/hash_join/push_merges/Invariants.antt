use Rattle.std.proofs.Common.{◌≡◌, ◌++◌, drop}
use Rattle.rc_instance.proofs.Imports.{merges_of, tuples_of}
use Rattle.rc_instance.proofs.hash_join.push_merges.Given as goal

-- what was merged and what is left to merge is the whole
abbrev pub invariant-loop-other : goal.invariant-loop-other
invariant-loop-other l = l.merges.items ++ merges_of l.tuple (tuples_of (drop l.other-index l.others)) ≡ l.fn.merges.items ++ merges_of l.tuple (tuples_of l.others)
