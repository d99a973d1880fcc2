use Rattle.std.proofs.Common.{◌≡◌, ◌≤◌}
use Rattle.rc_tuple.specs.ColSet.{rank}
use Rattle.rc_tuple.proofs.col_set.ColSet.nth.Given as goal

abbrev pub invariant-loop-k : goal.invariant-loop-k
invariant-loop-k l = record { rank : l.before ≡ rank l.self l.k; bound : l.before ≤ l.k; not_yet : l.before ≤ l.place }
