use Rattle.std.proofs.Common.{◌≡◌, ◌++◌, take}
use Rattle.rc_mutate.proofs.Imports.{Exclusive, locks, update_which}
use Rattle.rc_mutate.proofs.update.push_update_locks.Given as goal

abbrev pub invariant-loop-place : goal.invariant-loop-place
invariant-loop-place l = l.plan ≡ l.initial.plan ++ locks Exclusive (update_which l.spec l.pattern l.probes) (take l.place l.classes)
