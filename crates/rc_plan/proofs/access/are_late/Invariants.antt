use Rattle.std.proofs.Common.{◌<◌, get_or, take, ℕ}
use Rattle.rc_plan.proofs.Imports.{IsLate, Commit}
use Rattle.rc_plan.proofs.access.are_late.Given as goal

abbrev pub invariant-loop-at : goal.invariant-loop-at
invariant-loop-at l = (n : ℕ) → n < l.at → IsLate l.edge (take n l.statements) (get_or l.statements n Commit)
