use Rattle.std.proofs.Common.{◌≡◌}
use Rattle.rc_row.proofs.Imports.{replicate, no_entries}
use Rattle.rc_row.proofs.build.without_entries.Given as goal

abbrev pub invariant-loop : goal.invariant-loop
invariant-loop l = l.ended.items ≡ replicate l.counter (no_entries l.keeping)
