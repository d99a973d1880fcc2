use Rattle.std.proofs.Common.{◌≡◌, ◌++◌, take}
use Rattle.rc_plan.specs.declared.statement.Which.TheVariants as which
use Rattle.rc_mutate.proofs.Imports.{Exclusive, locks}
use Rattle.rc_mutate.proofs.remove.push_keyed_locks.Given as goal

abbrev pub invariant-loop-place : goal.invariant-loop-place
invariant-loop-place l = l.plan ≡ l.initial.plan ++ locks Exclusive (λ c. which.Keyed) (take l.place l.classes)
