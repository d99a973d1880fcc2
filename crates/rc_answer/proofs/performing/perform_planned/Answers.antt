use Rattle.rc_answer.proofs.Imports.{ArePlanned, done_in}
use Rattle.rc_answer.proofs.RanLemmas.{all_ran_by, are_planned, reported_by}
use Rattle.rc_answer.proofs.performing.perform_planned.Goals as goal

pub returns-clause-run : goal.returns-clause-run
returns-clause-run g c =
    let made = c.in_ok-compiled.compiled in
    all_ran_by (ArePlanned c.args.accepted) c.args.accepted made c.args.work.now c.in_ok-compiled.ensures.same
    (are_planned c.args.accepted made c.in_ok-compiled.ensures.same c.accepted.ensures.planned c.in_ok-compiled.ensures.planned)
    c.perform.result c.perform.ensures.run

pub returns-clause-written : goal.returns-clause-written
returns-clause-written g c =
    let made = c.in_ok-compiled.compiled in
    reported_by (ArePlanned c.args.accepted) c.args.accepted made c.args.work.now c.in_ok-compiled.ensures.same
    (are_planned c.args.accepted made c.in_ok-compiled.ensures.same c.accepted.ensures.planned c.in_ok-compiled.ensures.planned)
    (g.K.Sink.held c.args.sink.now) (g.K.Sink.held c.perform.new.sink) (done_in c.perform.result) c.perform.ensures.written
