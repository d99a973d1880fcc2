use Rattle.std.proofs.Common.{sym, ap, ◌∙◌}
use Rattle.rc_fragment.proofs.Imports.{eq-eqb, eqb-true, false≢true, containers_of}
use Rattle.std.specs.FinMap as fin
use Rattle.rc_fragment.proofs.SourceTableLemmas.{root-here, root-other}
use Rattle.rc_fragment.proofs.source_table.SourceTable.get.Goals as goal

pub returns-then-is_empty : goal.returns-then-is_empty
returns-then-is_empty c =
    c.as_ref.ensures.value ∙ sym (root-here c.in-Root.place c.args.source.now (eqb-true _ 0 (sym c.is_empty.ensures ∙ c.if-is_empty.true)))
    ∙ ap (λ t. fin.get (containers_of t) c.args.source.now) (sym c.in-Root.is)

pub returns-else-is_empty : goal.returns-else-is_empty
returns-else-is_empty c =
    sym (root-other c.in-Root.place c.args.source.now (λ h. false≢true (sym (sym c.is_empty.ensures ∙ c.if-is_empty.false) ∙ eq-eqb _ 0 h)))
    ∙ ap (λ t. fin.get (containers_of t) c.args.source.now) (sym c.in-Root.is)
