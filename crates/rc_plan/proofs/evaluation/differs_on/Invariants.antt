use Rattle.std.proofs.Common.{◌≡◌, ◌&&◌, take, not, false}
use Rattle.rc_plan.proofs.Imports.{list_any, agree_on, stays_beside}
use Rattle.rc_plan.proofs.evaluation.differs_on.Given as goal

abbrev pub invariant-loop-binding : goal.invariant-loop-binding
invariant-loop-binding l = list_any (λ b. stays_beside l.op.kind l.op.pattern l.args b && not (agree_on l.cols b l.args)) (take l.binding-index l.bindings) ≡ false
