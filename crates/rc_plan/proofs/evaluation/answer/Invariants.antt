use Rattle.std.proofs.Common.{◌≡◌, take}
use Rattle.rc_plan.proofs.Imports.{filter, rows_of, in_ranges}
use Rattle.rc_plan.proofs.evaluation.answer.Given as goal

abbrev pub invariant-loop-binding : goal.invariant-loop-binding
invariant-loop-binding l = l.rows ≡ rows_of l.outs (filter (in_ranges l.ranges) (take l.binding-index l.bindings))
