use Rattle.rc_fragment.proofs.FullReadLemmas.{kept_all, told_all, told_known, told_some}
use Rattle.rc_fragment.proofs.SourcesLemmas.{if_ok_from}
use Rattle.rc_fragment.proofs.fragment.Fragment.rows.Goals as goal

pub sources-requires-clause-known : goal.sources-requires-clause-known
sources-requires-clause-known c = told_known c.self.inside.stored c.args.self.now c.self.view_is c.self.invariant c.rows_fit_the_table.ensures.now c.args.edge c.shape.result c.shape.ensures c.in-Some.lower c.in-Some.is

pub sources-requires-clause-some : goal.sources-requires-clause-some
sources-requires-clause-some c = told_some c.self.inside.stored c.args.self.now c.self.view_is c.self.invariant c.rows_fit_the_table.ensures.now c.args.edge c.shape.result c.shape.ensures c.in-Some.lower c.in-Some.is

pub returns-in-None : goal.returns-in-None
returns-in-None c = if_ok_from c.rows.result c.rows.ensures (λ rows h. kept_all c.self.inside.stored c.args.self.now c.self.view_is c.self.invariant c.rows_fit_the_table.ensures.now c.args.edge c.shape.result c.shape.ensures c.in-None.is rows h)

pub returns-in-Some : goal.returns-in-Some
returns-in-Some c = if_ok_from c.sources.result c.sources.ensures (λ rows h. told_all c.self.inside.stored c.args.self.now c.self.view_is c.self.invariant c.rows_fit_the_table.ensures.now c.args.edge c.shape.result c.shape.ensures c.in-Some.lower c.in-Some.is rows h)
