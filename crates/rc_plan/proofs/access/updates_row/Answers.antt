use Rattle.std.proofs.Common.{ap, not, sym, ◌∙◌}
use Rattle.std.proofs.lemmas.Bool.{false≢true, not-true}
use Rattle.rc_plan.proofs.access.updates_row.Goals as goal

pub returns-then-removes_row : goal.returns-then-removes_row
returns-then-removes_row c = (
  (λ e. let row = c.removes_row.ensures.0 c.if-removes_row.true in record { given = row.given; whole = row.whole; unchecked = sym c.checks_dependency.ensures ∙ not-true c.checks_dependency.result e }),
  (λ row. ap not (c.checks_dependency.ensures ∙ row.unchecked)),
)

pub returns-else-removes_row : goal.returns-else-removes_row
returns-else-removes_row c = (
  (λ e. absurd (false≢true (sym c.if-removes_row.false ∙ e))),
  (λ row. absurd (false≢true (sym c.if-removes_row.false ∙ c.removes_row.ensures.1 (record { given = row.given; whole = row.whole })))),
)
