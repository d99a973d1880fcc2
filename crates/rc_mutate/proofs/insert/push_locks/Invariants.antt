use Rattle.std.proofs.Common.{◌≡◌, ◌++◌, take}
use Rattle.rc_mutate.proofs.Imports.{Exclusive, locks, which_under}
use Rattle.rc_mutate.proofs.insert.push_locks.Given as goal

abbrev pub invariant-loop-place : goal.invariant-loop-place
invariant-loop-place l = l.plan ≡ l.initial.plan ++ locks Exclusive (which_under l.spec l.probes) (take l.place l.classes)
