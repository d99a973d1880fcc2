use Rattle.std.proofs.Common.{◌≡◌, ◌++◌, take}
use Rattle.rc_query.specs.Planned.{locks, which_where}
use Rattle.rc_query.proofs.statements.push_locks.Given as goal

abbrev pub invariant-loop-place : goal.invariant-loop-place
invariant-loop-place l = l.plan ≡ l.initial.plan ++ locks l.mode (which_where l.spec l.columns) (take l.place l.classes)
