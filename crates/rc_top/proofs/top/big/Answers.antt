use Rattle.std.proofs.Common.{◌↔◌, ◌≡◌, ◌∙◌, sym, subst}
use Rattle.rc_top.proofs.Imports.{IfSome, IsSome, HasSummaryText, ArePlanned, IsOneHistory, status_in, Nothing, Outcome, Status, Done, EndsBig}
use Rattle.rc_top.proofs.EndLemmas.{big_ends}
use Rattle.rc_top.proofs.RanLemmas.{big_history_left, big_left_exactly, summary_left}
use Rattle.rc_top.proofs.CountLemmas.{quiet_runner}
use Rattle.rc_top.proofs.top.big.Goals as goal

pub returns-clause-big : goal.returns-clause-big
returns-clause-big g c =
    let old = g.K.Sink.held c.args.sink.now in
    let new = g.K.Sink.held c.answer_big.new.sink in
    subst (λ (status : Status). EndsBig c.args.seed c.args.calls old new status) (sym c.outcome_of.ensures.status)
    (big_ends c.args.seed c.args.calls old new (status_in c.answer_big.result) c.answer_big.ensures.written)

pub returns-clause-has_ran : goal.returns-clause-has_ran
returns-clause-has_ran g c =
    subst (λ (o : Outcome). IsSome o.ran ↔ (o.status ≡ Done)) (λ i. record { status = sym c.outcome_of.ensures.status i; ran = sym c.outcome_of.ensures.ran i })
    (big_left_exactly c.answer_big.result c.answer_big.ensures.has_ran)

pub returns-clause-history : goal.returns-clause-history
returns-clause-history g c =
    subst (λ o. IfSome o (IsOneHistory ArePlanned Nothing)) (sym c.outcome_of.ensures.ran)
    (big_history_left c.answer_big.result c.args.seed c.args.calls (g.K.Sink.held c.args.sink.now) (g.K.Sink.held c.answer_big.new.sink) c.answer_big.ensures.ran)

pub returns-clause-summary : goal.returns-clause-summary
returns-clause-summary g c =
    let old = g.K.Sink.held c.args.sink.now in
    let new = g.K.Sink.held c.answer_big.new.sink in
    subst (λ o. IfSome o (HasSummaryText c.args.seed c.args.calls old new)) (sym c.outcome_of.ensures.ran)
    (summary_left c.answer_big.result c.args.seed c.args.calls old new c.answer_big.ensures.ran)

pub returns-clause-memory : goal.returns-clause-memory
returns-clause-memory g c = λ is.
    quiet_runner (g.K.Sink.faults c.args.sink.now) (g.K.Sink.faults c.answer_big.new.sink) c.answer_big.result c.answer_big.ensures.faults
    (sym c.outcome_of.ensures.status ∙ is)
