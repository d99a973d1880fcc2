use Rattle.std.proofs.Common.{◌∙◌, List, ℕ, codes, sym, ap, ap₂}
use Rattle.rc_command.proofs.Imports.{IfOk-weaker, found_of, rows_of, first_value-rows, audit_words, big_words, dot_words, met_as}
use Rattle.rc_command.proofs.command.command_behind.Goals as goal

pub returns-in-big-clause-value : goal.returns-in-big-clause-value
returns-in-big-clause-value c =
    let found = found_of c.args.inner.now in
    c.big_met.ensures.value ∙ ap₂ big_words (first_value-rows found (codes "SEED")) (first_value-rows found (codes "N"))
    ∙ ap (λ (name : List ℕ). met_as name (rows_of found)) (sym c.in-big.is)

pub returns-in-dot-clause-value : goal.returns-in-dot-clause-value
returns-in-dot-clause-value c =
    let found = found_of c.args.inner.now in
    IfOk-weaker c.dot_met.result _ _
    (λ r h. h ∙ ap dot_words (first_value-rows found (codes "OP")) ∙ ap (λ (name : List ℕ). met_as name (rows_of found)) (sym c.in-dot.is))
    c.dot_met.ensures.value

pub returns-in-audit-clause-value : goal.returns-in-audit-clause-value
returns-in-audit-clause-value c =
    let found = found_of c.args.inner.now in
    c.audit_met.ensures.value ∙ ap audit_words (first_value-rows found (codes "FORM"))
    ∙ ap (λ (name : List ℕ). met_as name (rows_of found)) (sym c.in-audit.is)
