use Rattle.std.proofs.Common.{◌≡◌, ◌++◌, take}
use Rattle.rc_dot.proofs.Imports.{flat_map, statement_table_line}
use Rattle.rc_dot.proofs.tables.push_statements.Given as goal

abbrev pub invariant-loop-statement : goal.invariant-loop-statement
invariant-loop-statement l = l.text.items ≡ l.fn.text.items ++ flat_map (statement_table_line l.spec) (take l.statement-index l.plan)
