use Rattle.rc_answer.proofs.Imports.{subst, HasSummaryText, IsBigText, Writes}
use Rattle.rc_answer.proofs.RanLemmas.{done_status}
use Rattle.rc_answer.proofs.SummingLemmas.{outcome_has_ran, outcome_ran}
use Rattle.rc_answer.proofs.summing.answer_big.Goals as goal

pub returns-clause-written : goal.returns-clause-written
returns-clause-written g c =
    subst (Writes (IsBigText c.args.seed c.args.calls) (g.K.Sink.held c.args.sink.now) (g.K.Sink.held c.perform_big.new.sink))
    (done_status c.perform_big.result c.with_run.result c.with_run.ensures) c.perform_big.ensures.written

pub returns-clause-has_ran : goal.returns-clause-has_ran
returns-clause-has_ran g c =
    outcome_has_ran (HasSummaryText c.args.seed c.args.calls (g.K.Sink.held c.args.sink.now) (g.K.Sink.held c.perform_big.new.sink))
    c.perform_big.result c.with_run.result c.with_run.ensures c.perform_big.ensures.ran

pub returns-clause-ran : goal.returns-clause-ran
returns-clause-ran g c =
    outcome_ran (HasSummaryText c.args.seed c.args.calls (g.K.Sink.held c.args.sink.now) (g.K.Sink.held c.perform_big.new.sink))
    c.perform_big.result c.with_run.result c.with_run.ensures c.perform_big.ensures.ran
