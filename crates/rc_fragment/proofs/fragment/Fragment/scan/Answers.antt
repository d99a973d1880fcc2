use Rattle.std.proofs.Common.{length, sym, ap, ◌∙◌}
use Rattle.rc_fragment.proofs.Imports.{eq-eqb, eqb-true, false≢true, nil_from_length}
use Rattle.rc_fragment.proofs.FullReadLemmas.{kept_scanned, told_known, told_none_scanned, told_scanned}
use Rattle.rc_fragment.proofs.SourcesLemmas.{on_ok_from}
use Rattle.rc_fragment.proofs.fragment.Fragment.scan.Goals as goal

pub push_sources-requires : goal.push_sources-requires
push_sources-requires c = told_known c.self.inside.stored c.args.self.now c.self.view_is c.self.invariant c.rows_fit_the_table.ensures.now c.args.edge c.shape.result c.shape.ensures c.in-Some.lower c.in-Some.is

pub returns-in-None-clause-ok : goal.returns-in-None-clause-ok
returns-in-None-clause-ok c = on_ok_from _ _ c.scan.result c.scan.ensures.ok (λ h. kept_scanned c.self.inside.stored c.args.self.now c.self.view_is c.self.invariant c.rows_fit_the_table.ensures.now c.args.edge c.shape.result c.shape.ensures c.in-None.is c.args.source.now c.args.out.now.items c.scan.new.out.items h)

pub returns-then-is_empty-clause-ok : goal.returns-then-is_empty-clause-ok
returns-then-is_empty-clause-ok c = on_ok_from _ _ c.push_sources.result c.push_sources.ensures.ok (λ h. told_scanned c.self.inside.stored c.args.self.now c.self.view_is c.self.invariant c.rows_fit_the_table.ensures.now c.args.edge c.shape.result c.shape.ensures c.in-Some.lower c.in-Some.is c.args.source.now c.args.out.now.items c.push_sources.new.out.items (nil_from_length c.args.source.now (eqb-true (length c.args.source.now) 0 (sym c.is_empty.ensures ∙ c.if-is_empty.true))) h)

pub returns-else-is_empty-clause-ok : goal.returns-else-is_empty-clause-ok
returns-else-is_empty-clause-ok c = told_none_scanned c.self.inside.stored c.args.self.now c.self.view_is c.self.invariant c.rows_fit_the_table.ensures.now c.args.edge c.shape.result c.shape.ensures c.in-Some.lower c.in-Some.is c.args.source.now c.args.out.now.items (λ q. false≢true (sym (sym c.is_empty.ensures ∙ c.if-is_empty.false) ∙ eq-eqb (length c.args.source.now) 0 (ap length q)))
