use Rattle.std.proofs.Common.{◌≡◌, []}
use Rattle.rc_row.proofs.Imports.{replicate, kept_of}
use Rattle.rc_row.proofs.build.empty_fragments.Given as goal

abbrev pub invariant-loop : goal.invariant-loop
invariant-loop l = l.fragments.items ≡ replicate l.counter (kept_of l.accepted [])
