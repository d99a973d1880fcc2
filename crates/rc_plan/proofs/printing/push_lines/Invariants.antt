use Rattle.std.proofs.Common.{◌≡◌, ◌++◌, take}
use Rattle.rc_plan.proofs.Imports.{flat_map, statement_line}
use Rattle.rc_plan.proofs.printing.push_lines.Given as goal

abbrev pub invariant-loop-statement : goal.invariant-loop-statement
invariant-loop-statement l = l.text.items ≡ l.fn.text.items ++ flat_map (statement_line l.spec) (take l.statement-index l.plan)
