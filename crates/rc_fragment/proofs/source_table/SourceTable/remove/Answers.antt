use Rattle.std.proofs.Common.{None, sym, ap, ◌∙◌}
use Rattle.rc_fragment.proofs.Imports.{eq-eqb, eqb-true, false≢true, written, containers_of}
use Rattle.rc_fragment.proofs.SourceTableLemmas.{root-changed, root-without}
use Rattle.rc_fragment.proofs.source_table.SourceTable.remove.Goals as goal

pub returns-then-is_empty-clause-containers : goal.returns-then-is_empty-clause-containers
returns-then-is_empty-clause-containers c =
    root-changed c.in-Root.place c.args.source.now None (eqb-true _ 0 (sym c.is_empty.ensures ∙ c.if-is_empty.true))
    ∙ ap (λ t. written (containers_of t) c.args.source.now None) (sym c.in-Root.is)

pub returns-else-is_empty-clause-containers : goal.returns-else-is_empty-clause-containers
returns-else-is_empty-clause-containers c =
    root-without c.in-Root.place c.args.source.now (λ h. false≢true (sym (sym c.is_empty.ensures ∙ c.if-is_empty.false) ∙ eq-eqb _ 0 h))
    ∙ ap (λ t. written (containers_of t) c.args.source.now None) (sym c.in-Root.is)
