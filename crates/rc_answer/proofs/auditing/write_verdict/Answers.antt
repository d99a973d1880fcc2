use Rattle.rc_answer.proofs.AuditLemmas.{verdict_begun, verdict_written}
use Rattle.rc_answer.proofs.auditing.write_verdict.Goals as goal

pub returns-in_err-write_line-clause-written : goal.returns-in_err-write_line-clause-written
returns-in_err-write_line-clause-written g c =
    verdict_begun c.args.verdict _ (g.K.Sink.held c.args.sink.now) (g.K.Sink.held c.write_line.new.sink) c.from_residual-in_err-write_line.result
    c.from_residual-in_err-write_line.ensures.0 c.in_ok-line.ensures c.in_err-write_line.ensures.prefix

pub returns-clause-written : goal.returns-clause-written
returns-clause-written g c =
    verdict_written c.args.verdict _ (g.K.Sink.held c.args.sink.now) (g.K.Sink.held c.write_line.new.sink) c.verdict_status.result c.in_ok-line.ensures c.verdict_status.ensures
    c.in_ok-write_line.ensures.ok
