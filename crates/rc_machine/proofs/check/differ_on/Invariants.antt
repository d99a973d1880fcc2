use Rattle.std.proofs.Common.{◌≡◌, ◌&&◌, take, not, false}
use Rattle.rc_machine.proofs.Imports.{stays_beside, list_any, agree_on}
use Rattle.rc_machine.proofs.check.differ_on.Given as goal

abbrev pub invariant-loop-at : goal.invariant-loop-at
invariant-loop-at l = list_any (λ b. stays_beside l.op.kind l.op.pattern l.args b && not (agree_on l.cols b l.args)) (take l.at l.bindings.tuples) ≡ false
