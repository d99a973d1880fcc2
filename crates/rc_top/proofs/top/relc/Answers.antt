use Rattle.std.proofs.Common.{◌≡◌, Some, None, ap, map, string_bytes, sym, ◌∙◌, subst}
use Rattle.std.specs.Prelude.{◌⊎◌, IfSome}
use Rattle.rc_top.proofs.Imports.{Outcome, audit_for, HasTextOf, Big, OfText, TextCommand, Check, Run, Group, Hand, Open, IsAnswered, KeepsRules, Status, OutOfMemory, HasRead, EndsBig, EndsUsage, command_of}
use Rattle.rc_top.proofs.EndLemmas.{answered, done_bad_or_refused, done_or_refused, one_command}
use Rattle.rc_top.proofs.RanLemmas.{history_by_seed}
use Rattle.rc_top.proofs.HeadlineLemmas.{by_hand_headline, checked_headline, group_headline, judged_headline, opened_headline, run_headline}
use Rattle.rc_top.proofs.top.relc.Goals as goal

pub returns-in-Ok-Some-OfText-clause-headline : goal.returns-in-Ok-Some-OfText-clause-headline
returns-in-Ok-Some-OfText-clause-headline g c = λ named input told short written.
    run_headline c.in-Ok-Some-OfText.command input (g.K.Sink.held c.args.sink.now) (g.K.Sink.held c.answer_text.new.sink) c.answer_text.result
    short (done_or_refused c.answer_text.result.status written) (c.answer_text.ensures.answers input told) c.answer_text.ensures.has_ran
    (one_command c.in-Ok-Some-OfText.command Run
    (sym (ap Some c.in-Ok-Some-OfText.field-0-0-is) ∙ sym c.in-Ok-Some-OfText.field-0-is ∙ c.in-Ok-Some-OfText.ensures.value ∙ named))
    (c.answer_text.ensures.report input told)

pub returns-in-Ok-Some-OfText-clause-group_headline : goal.returns-in-Ok-Some-OfText-clause-group_headline
returns-in-Ok-Some-OfText-clause-group_headline g c = λ named input told short written.
    group_headline c.in-Ok-Some-OfText.command input (g.K.Sink.held c.args.sink.now) (g.K.Sink.held c.answer_text.new.sink) c.answer_text.result
    short (done_or_refused c.answer_text.result.status written) (c.answer_text.ensures.answers input told) c.answer_text.ensures.has_ran
    (one_command c.in-Ok-Some-OfText.command Group
    (sym (ap Some c.in-Ok-Some-OfText.field-0-0-is) ∙ sym c.in-Ok-Some-OfText.field-0-is ∙ c.in-Ok-Some-OfText.ensures.value ∙ named))
    (c.answer_text.ensures.report input told)

pub returns-in-Ok-Some-OfText-clause-hand_headline : goal.returns-in-Ok-Some-OfText-clause-hand_headline
returns-in-Ok-Some-OfText-clause-hand_headline g c = λ named input told short written.
    by_hand_headline c.in-Ok-Some-OfText.command input (g.K.Sink.held c.args.sink.now) (g.K.Sink.held c.answer_text.new.sink) c.answer_text.result
    short (done_or_refused c.answer_text.result.status written) (c.answer_text.ensures.answers input told) c.answer_text.ensures.has_ran
    (one_command c.in-Ok-Some-OfText.command Hand
    (sym (ap Some c.in-Ok-Some-OfText.field-0-0-is) ∙ sym c.in-Ok-Some-OfText.field-0-is ∙ c.in-Ok-Some-OfText.ensures.value ∙ named))
    (c.answer_text.ensures.report input told)

pub returns-in-Ok-Some-OfText-clause-open_headline : goal.returns-in-Ok-Some-OfText-clause-open_headline
returns-in-Ok-Some-OfText-clause-open_headline g c = λ named input told short written.
    opened_headline c.in-Ok-Some-OfText.command input (g.K.Sink.held c.args.sink.now) (g.K.Sink.held c.answer_text.new.sink) c.answer_text.result
    short (done_or_refused c.answer_text.result.status written) (c.answer_text.ensures.answers input told) c.answer_text.ensures.has_ran
    (one_command c.in-Ok-Some-OfText.command Open
    (sym (ap Some c.in-Ok-Some-OfText.field-0-0-is) ∙ sym c.in-Ok-Some-OfText.field-0-is ∙ c.in-Ok-Some-OfText.ensures.value ∙ named))
    (c.answer_text.ensures.report input told)

pub returns-in-Ok-Some-OfText-clause-check_headline : goal.returns-in-Ok-Some-OfText-clause-check_headline
returns-in-Ok-Some-OfText-clause-check_headline g c = λ named input told short written.
    checked_headline c.in-Ok-Some-OfText.command input (g.K.Sink.held c.args.sink.now) (g.K.Sink.held c.answer_text.new.sink) c.answer_text.result
    short (done_or_refused c.answer_text.result.status written) (c.answer_text.ensures.answers input told) c.answer_text.ensures.has_ran
    (one_command c.in-Ok-Some-OfText.command Check
    (sym (ap Some c.in-Ok-Some-OfText.field-0-0-is) ∙ sym c.in-Ok-Some-OfText.field-0-is ∙ c.in-Ok-Some-OfText.ensures.value ∙ named))

pub returns-in-Ok-Some-OfText-clause-audit_headline : goal.returns-in-Ok-Some-OfText-clause-audit_headline
returns-in-Ok-Some-OfText-clause-audit_headline g c = λ form named input told short written.
    judged_headline c.in-Ok-Some-OfText.command input (g.K.Sink.held c.args.sink.now) (g.K.Sink.held c.answer_text.new.sink) c.answer_text.result
    short (done_bad_or_refused c.answer_text.result.status written) (c.answer_text.ensures.answers input told) c.answer_text.ensures.has_ran
    form (one_command c.in-Ok-Some-OfText.command (audit_for form)
    (sym (ap Some c.in-Ok-Some-OfText.field-0-0-is) ∙ sym c.in-Ok-Some-OfText.field-0-is ∙ c.in-Ok-Some-OfText.ensures.value ∙ named))

pub returns-in-Ok-Some-OfText-clause-only_audit : goal.returns-in-Ok-Some-OfText-clause-only_audit
returns-in-Ok-Some-OfText-clause-only_audit g c = λ is.
    let of = c.answer_text.ensures.only_audit is in (
      of.0,
      sym c.in-Ok-Some-OfText.ensures.value ∙ c.in-Ok-Some-OfText.field-0-is ∙ ap Some (c.in-Ok-Some-OfText.field-0-0-is ∙ ap OfText of.1),
    )

pub returns-in-Ok-Some-OfText-clause-complete : goal.returns-in-Ok-Some-OfText-clause-complete
returns-in-Ok-Some-OfText-clause-complete g c = λ command named input told short good no_source no_sink.
    let same : c.in-Ok-Some-OfText.command ≡ command = one_command c.in-Ok-Some-OfText.command command (sym (ap Some c.in-Ok-Some-OfText.field-0-0-is) ∙ sym c.in-Ok-Some-OfText.field-0-is ∙ c.in-Ok-Some-OfText.ensures.value ∙ named) in
    subst (λ (k : TextCommand). IsAnswered k c.answer_text.result.status ⊎ (c.answer_text.result.status ≡ OutOfMemory)) same
    (answered c.in-Ok-Some-OfText.command input (g.K.Sink.held c.args.sink.now) (g.K.Sink.held c.answer_text.new.sink) c.answer_text.result.status short
    (subst (λ (k : TextCommand). KeepsRules k input) (sym same) good) (c.answer_text.ensures.answers input told) c.answer_text.ensures.not_usage
    (λ e. no_source (c.answer_text.ensures.source_failed e)) (λ e. no_sink (c.answer_text.ensures.sink_failed e)))

pub returns-in-Ok-Some-OfText-clause-report : goal.returns-in-Ok-Some-OfText-clause-report
returns-in-Ok-Some-OfText-clause-report g c = λ command named input told.
    let same : c.in-Ok-Some-OfText.command ≡ command = one_command c.in-Ok-Some-OfText.command command (sym (ap Some c.in-Ok-Some-OfText.field-0-0-is) ∙ sym c.in-Ok-Some-OfText.field-0-is ∙ c.in-Ok-Some-OfText.ensures.value ∙ named) in
    subst (λ (k : TextCommand). IfSome c.answer_text.result.ran (HasTextOf k input (g.K.Sink.held c.args.sink.now) (g.K.Sink.held c.answer_text.new.sink))) same
    (c.answer_text.ensures.report input told)

pub returns-in-Ok-Some-Big-clause-report : goal.returns-in-Ok-Some-Big-clause-report
returns-in-Ok-Some-Big-clause-report g c = λ command named input told.
    let e : Some (Big c.in-Ok-Some-Big.seed c.in-Ok-Some-Big.calls) ≡ Some (OfText command) = sym (ap Some c.in-Ok-Some-Big.field-0-0-is) ∙ sym c.in-Ok-Some-Big.field-0-is ∙ c.in-Ok-Some-Big.ensures.value ∙ named in
    absurd cc

pub returns-in-Ok-Some-Big-clause-left : goal.returns-in-Ok-Some-Big-clause-left
returns-in-Ok-Some-Big-clause-left g c = λ command named input told read.
    let e : Some (Big c.in-Ok-Some-Big.seed c.in-Ok-Some-Big.calls) ≡ Some (OfText command) = sym (ap Some c.in-Ok-Some-Big.field-0-0-is) ∙ sym c.in-Ok-Some-Big.field-0-is ∙ c.in-Ok-Some-Big.ensures.value ∙ named in
    absurd cc

pub returns-in-Ok-Some-Big-clause-history : goal.returns-in-Ok-Some-Big-clause-history
returns-in-Ok-Some-Big-clause-history g c =
    history_by_seed (command_of (map string_bytes c.args.words.now)) c.in-Ok-Some-Big.seed c.in-Ok-Some-Big.calls c.big.result.ran
    (sym c.in-Ok-Some-Big.ensures.value ∙ c.in-Ok-Some-Big.field-0-is ∙ ap Some c.in-Ok-Some-Big.field-0-0-is) c.big.ensures.history

pub returns-in-Ok-None-clause-left : goal.returns-in-Ok-None-clause-left
returns-in-Ok-None-clause-left g c = λ command named input told read.
    let e : None ≡ Some (OfText command) = sym c.in-Ok-None.field-0-is ∙ c.in-Ok-None.ensures.value ∙ named in
    absurd cc

pub returns-in-Err-clause-left : goal.returns-in-Err-clause-left
returns-in-Err-clause-left g c = λ command named input told read. absurd (subst (λ (o : Outcome). HasRead o.status) c.without_run-in-Err.ensures read)

pub returns-in-Ok-Some-Big-clause-headline : goal.returns-in-Ok-Some-Big-clause-headline
returns-in-Ok-Some-Big-clause-headline g c = λ named input told short written.
    let e : Some (Big c.in-Ok-Some-Big.seed c.in-Ok-Some-Big.calls) ≡ Some (OfText Run) =
    sym (ap Some c.in-Ok-Some-Big.field-0-0-is) ∙ sym c.in-Ok-Some-Big.field-0-is ∙ c.in-Ok-Some-Big.ensures.value ∙ named in
    absurd cc

pub returns-in-Ok-Some-Big-clause-group_headline : goal.returns-in-Ok-Some-Big-clause-group_headline
returns-in-Ok-Some-Big-clause-group_headline g c = λ named input told short written.
    let e : Some (Big c.in-Ok-Some-Big.seed c.in-Ok-Some-Big.calls) ≡ Some (OfText Group) =
    sym (ap Some c.in-Ok-Some-Big.field-0-0-is) ∙ sym c.in-Ok-Some-Big.field-0-is ∙ c.in-Ok-Some-Big.ensures.value ∙ named in
    absurd cc

pub returns-in-Ok-Some-Big-clause-hand_headline : goal.returns-in-Ok-Some-Big-clause-hand_headline
returns-in-Ok-Some-Big-clause-hand_headline g c = λ named input told short written.
    let e : Some (Big c.in-Ok-Some-Big.seed c.in-Ok-Some-Big.calls) ≡ Some (OfText Hand) =
    sym (ap Some c.in-Ok-Some-Big.field-0-0-is) ∙ sym c.in-Ok-Some-Big.field-0-is ∙ c.in-Ok-Some-Big.ensures.value ∙ named in
    absurd cc

pub returns-in-Ok-Some-Big-clause-check_headline : goal.returns-in-Ok-Some-Big-clause-check_headline
returns-in-Ok-Some-Big-clause-check_headline g c = λ named input told short written.
    let e : Some (Big c.in-Ok-Some-Big.seed c.in-Ok-Some-Big.calls) ≡ Some (OfText Check) =
    sym (ap Some c.in-Ok-Some-Big.field-0-0-is) ∙ sym c.in-Ok-Some-Big.field-0-is ∙ c.in-Ok-Some-Big.ensures.value ∙ named in
    absurd cc

pub returns-in-Ok-Some-Big-clause-audit_headline : goal.returns-in-Ok-Some-Big-clause-audit_headline
returns-in-Ok-Some-Big-clause-audit_headline g c = λ form named input told short written.
    let e : Some (Big c.in-Ok-Some-Big.seed c.in-Ok-Some-Big.calls) ≡ Some (OfText (audit_for form)) =
    sym (ap Some c.in-Ok-Some-Big.field-0-0-is) ∙ sym c.in-Ok-Some-Big.field-0-is ∙ c.in-Ok-Some-Big.ensures.value ∙ named in
    absurd cc

pub returns-in-Ok-Some-Big-clause-only_audit : goal.returns-in-Ok-Some-Big-clause-only_audit
returns-in-Ok-Some-Big-clause-only_audit g c = λ is.
    absurd (subst (λ (status : Status). EndsBig c.in-Ok-Some-Big.seed c.in-Ok-Some-Big.calls (g.K.Sink.held c.args.sink.now) (g.K.Sink.held c.big.new.sink) status) is c.big.ensures.big)

pub returns-in-Ok-None-clause-headline : goal.returns-in-Ok-None-clause-headline
returns-in-Ok-None-clause-headline g c = λ named input told short written.
    let e : None ≡ Some (OfText Run) = sym c.in-Ok-None.field-0-is ∙ c.in-Ok-None.ensures.value ∙ named in
    absurd cc

pub returns-in-Ok-None-clause-group_headline : goal.returns-in-Ok-None-clause-group_headline
returns-in-Ok-None-clause-group_headline g c = λ named input told short written.
    let e : None ≡ Some (OfText Group) = sym c.in-Ok-None.field-0-is ∙ c.in-Ok-None.ensures.value ∙ named in
    absurd cc

pub returns-in-Ok-None-clause-hand_headline : goal.returns-in-Ok-None-clause-hand_headline
returns-in-Ok-None-clause-hand_headline g c = λ named input told short written.
    let e : None ≡ Some (OfText Hand) = sym c.in-Ok-None.field-0-is ∙ c.in-Ok-None.ensures.value ∙ named in
    absurd cc

pub returns-in-Ok-None-clause-check_headline : goal.returns-in-Ok-None-clause-check_headline
returns-in-Ok-None-clause-check_headline g c = λ named input told short written.
    let e : None ≡ Some (OfText Check) = sym c.in-Ok-None.field-0-is ∙ c.in-Ok-None.ensures.value ∙ named in
    absurd cc

pub returns-in-Ok-None-clause-audit_headline : goal.returns-in-Ok-None-clause-audit_headline
returns-in-Ok-None-clause-audit_headline g c = λ form named input told short written.
    let e : None ≡ Some (OfText (audit_for form)) = sym c.in-Ok-None.field-0-is ∙ c.in-Ok-None.ensures.value ∙ named in
    absurd cc

pub returns-in-Ok-None-clause-only_audit : goal.returns-in-Ok-None-clause-only_audit
returns-in-Ok-None-clause-only_audit g c = λ is.
    absurd (subst (λ (status : Status). EndsUsage (g.K.Sink.held c.args.sink.now) (g.K.Sink.held c.usage.new.sink) status)
    (sym (ap (λ (o : Outcome). o.status) c.without_run.ensures) ∙ is) c.usage.ensures.ends)
