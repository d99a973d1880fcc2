use Rattle.std.proofs.Common.{sym, ◌∙◌, length}
use Rattle.rc_plan.proofs.Imports.{false≢true, IsResolvedEdge}
use Rattle.rc_plan.proofs.ResolvedLemmas.{at_number, given_is}
use Rattle.rc_plan.proofs.access.removes_row.Goals as goal

pub returns-then-is_given : goal.returns-then-is_given
returns-then-is_given c =
    let resolved = at_number (IsResolvedEdge c.args.spec.now) c.args.edges.now (length c.args.spec.now.edges) c.args.edge c.index-edges-edge.result c.requires.resolved c.requires.edge in (
      (λ e. record { given = c.is_given.ensures.0 c.if-is_given.true ∙ given_is c.args.spec.now c.args.edge _ resolved; whole = sym resolved.target ∙ c.equals.ensures.0 e ∙ c.all_columns.ensures }),
      (λ row. c.equals.ensures.1 (resolved.target ∙ row.whole ∙ sym c.all_columns.ensures)),
    )

pub returns-else-is_given : goal.returns-else-is_given
returns-else-is_given c =
    let resolved = at_number (IsResolvedEdge c.args.spec.now) c.args.edges.now (length c.args.spec.now.edges) c.args.edge c.index-edges-edge.result c.requires.resolved c.requires.edge in (
      (λ e. absurd (false≢true (sym c.if-is_given.false ∙ e))),
      (λ row. c.is_given.ensures.1 (row.given ∙ sym (given_is c.args.spec.now c.args.edge _ resolved))),
    )
