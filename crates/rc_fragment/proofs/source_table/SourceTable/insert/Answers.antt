use Rattle.std.proofs.Common.{Some, length, sym, ap, ◌∙◌}
use Rattle.rc_fragment.proofs.Imports.{written, containers_of, width_of}
use Rattle.rc_fragment.proofs.SourceTableLemmas.{no_width, root-changed}
use Rattle.rc_fragment.proofs.source_table.SourceTable.insert.Goals as goal

pub returns-in-Root-clause-ok : goal.returns-in-Root-clause-ok
returns-in-Root-clause-ok c =
    let source = c.args.source.now in
    root-changed c.in-Root.place source (Some c.args.container) (no_width (length source) (ap width_of (sym c.in-Root.is) ∙ c.requires))
    ∙ ap (λ t. written (containers_of t) source (Some c.args.container)) (sym c.in-Root.is)
