use Rattle.std.proofs.Common.{◌≡◌, ◌∙◌, List, ℕ, ap, sym, subst}
use Rattle.rc_answer.proofs.Imports.{option_copied, OnOk, Adds, AddsPrefix, ran_text, entries_in}
use Rattle.std.specs.Prelude.{OnErr}
use Rattle.rc_answer.proofs.SummingLemmas.{printed_text}
use Rattle.rc_answer.proofs.summing.write_summary.Goals as goal

pub returns-clause-ok : goal.returns-clause-ok
returns-clause-ok g c =
    let same : c.deref.result.now ≡ ran_text c.args.ran.now =
    printed_text c.args.ran.now c.summarise-summary.result c.entries.result.now c.list.result.now c.deref.result.now
    (c.deref.ensures.value ∙ c.in_ok-text.ensures) c.summarise-summary.ensures
    (c.entries.ensures ∙ ap (λ o. entries_in (option_copied o)) (sym c.in-Some.is) ∙ ap entries_in c.journal.ensures) c.list.ensures in
    subst (λ (text : List ℕ). OnOk c.write_text.result (Adds (g.K.Sink.held c.args.sink.now) text (g.K.Sink.held c.write_text.new.sink))) same c.write_text.ensures.ok

pub returns-clause-prefix : goal.returns-clause-prefix
returns-clause-prefix g c =
    let same : c.deref.result.now ≡ ran_text c.args.ran.now =
    printed_text c.args.ran.now c.summarise-summary.result c.entries.result.now c.list.result.now c.deref.result.now
    (c.deref.ensures.value ∙ c.in_ok-text.ensures) c.summarise-summary.ensures
    (c.entries.ensures ∙ ap (λ o. entries_in (option_copied o)) (sym c.in-Some.is) ∙ ap entries_in c.journal.ensures) c.list.ensures in
    subst (λ (text : List ℕ). OnErr c.write_text.result (AddsPrefix (g.K.Sink.held c.args.sink.now) text (g.K.Sink.held c.write_text.new.sink))) same c.write_text.ensures.prefix
