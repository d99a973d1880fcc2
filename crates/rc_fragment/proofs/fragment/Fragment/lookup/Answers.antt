use Rattle.std.proofs.Common.{length, sym, ap, ◌∙◌}
use Rattle.rc_fragment.proofs.Imports.{option_copied, eq-eqb, eqb-true, false≢true, nil_from_length}
use Rattle.rc_fragment.proofs.FullReadLemmas.{kept_lookup, told_known, told_lookup, told_none}
use Rattle.rc_fragment.proofs.fragment.Fragment.lookup.Goals as goal
use Rattle.rc_fragment.proofs.fragment.Fragment.lookup.Goals.{else-is_empty-via-then-is_empty+else-has_source, else-is_empty-via-else-is_empty}

pub has_source-requires : goal.has_source-requires
has_source-requires c = told_known c.self.inside.stored c.args.self.now c.self.view_is c.self.invariant c.rows_fit_the_table.ensures.now c.args.edge c.shape.result c.shape.ensures c.in-Some.lower c.in-Some.is

pub returns-in-None : goal.returns-in-None
returns-in-None c = kept_lookup c.self.inside.stored c.args.self.now c.self.view_is c.self.invariant c.rows_fit_the_table.ensures.now c.args.edge c.shape.result c.shape.ensures c.in-None.is c.args.source.now c.args.key.now (option_copied c.lookup.result) c.lookup.ensures

pub returns-then-has_source : goal.returns-then-has_source
returns-then-has_source c = told_lookup c.self.inside.stored c.args.self.now c.self.view_is c.self.invariant c.rows_fit_the_table.ensures.now c.args.edge c.shape.result c.shape.ensures c.in-Some.lower c.in-Some.is c.args.source.now c.args.key.now (nil_from_length c.args.source.now (eqb-true (length c.args.source.now) 0 (sym c.is_empty.ensures ∙ c.if-is_empty.true))) (λ shape has. (c.has_source.ensures shape has).0 c.if-has_source.true)

pub returns-else-is_empty : goal.returns-else-is_empty
returns-else-is_empty c =
    elim c.else-is_empty.branch [
      | else-is_empty-via-then-is_empty+else-has_source w ↦ told_none c.self.inside.stored c.args.self.now c.self.view_is c.self.invariant c.rows_fit_the_table.ensures.now c.args.edge c.shape.result c.shape.ensures c.in-Some.lower c.in-Some.is c.args.source.now c.args.key.now (λ q lower has h. false≢true (sym w.if-has_source.false ∙ (w.has_source.ensures lower has).1 h))
      | else-is_empty-via-else-is_empty w ↦ told_none c.self.inside.stored c.args.self.now c.self.view_is c.self.invariant c.rows_fit_the_table.ensures.now c.args.edge c.shape.result c.shape.ensures c.in-Some.lower c.in-Some.is c.args.source.now c.args.key.now (λ q lower has h. false≢true (sym (sym c.is_empty.ensures ∙ w.if-is_empty.false) ∙ eq-eqb (length c.args.source.now) 0 (ap length q)))
    ]
