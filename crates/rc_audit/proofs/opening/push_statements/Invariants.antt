use Rattle.std.proofs.Common.{◌≡◌, ◌++◌, map, take}
use Rattle.rc_plan.specs.PlanText.{statement_text}
use Rattle.rc_audit.proofs.opening.push_statements.Given as goal

abbrev pub invariant-loop-statement : goal.invariant-loop-statement
invariant-loop-statement l = l.lines ≡ l.fn.lines ++ map (statement_text l.spec) (take l.statement-index l.plan)
