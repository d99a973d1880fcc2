use Rattle.rc_answer.proofs.AuditLemmas.{judgement_written}
use Rattle.rc_answer.proofs.RanLemmas.{are_planned}
use Rattle.rc_answer.proofs.auditing.write_judgement.Goals as goal

pub returns-clause-written : goal.returns-clause-written
returns-clause-written g c =
    let made = c.in_ok-compiled.compiled in
    judgement_written c.args.form c.args.accepted made c.args.work.now _ _ c.in_ok-verdict.field-0 (g.K.Sink.held c.args.sink.now) (g.K.Sink.held c.write_verdict.new.sink) c.write_verdict.result
    c.in_ok-compiled.ensures.same
    (are_planned c.args.accepted made c.in_ok-compiled.ensures.same c.accepted.ensures.planned c.in_ok-compiled.ensures.planned)
    c.in_ok-verdict.ensures c.write_verdict.ensures.written
