use Rattle.rc_dot.proofs.Imports.{sym, subst, In, get_or_in, Statement}
use Rattle.rc_dot.proofs.tables.push_statements.Goals as goal

pub push_statement-requires : goal.push_statement-requires
push_statement-requires c =
    c.requires c.statement-item.result
    (subst (λ (x : Statement). In x c.args.plan.now) (sym c.statement-item.is) (get_or_in c.args.plan.now c.loop-statement.statement-index c.statement-item.result c.loop-statement-test.true))
