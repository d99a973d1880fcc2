use Rattle.rc_answer.proofs.Imports.{HasSummaryText, IsBigText, ran_text}
use Rattle.rc_answer.proofs.RanLemmas.{handed_counts, handed_on, handed_text, planned_run}
use Rattle.rc_answer.proofs.SummingLemmas.{has_summary, is_big, rows_are_few, run_of_generated, steps_are_few}
use Rattle.rc_answer.proofs.summing.perform_big.Goals as goal

pub write_summary-requires-clause-calls : goal.write_summary-requires-clause-calls
write_summary-requires-clause-calls g c =
    steps_are_few c.args.seed c.args.calls c.in_ok-ran.ran
    (run_of_generated c.args.seed c.args.calls c.in_ok-accepted.accepted c.in-Ok.work c.in_ok-ran.ran c.in_ok-accepted.ensures c.in-Ok.ensures.value
    (planned_run c.in_ok-accepted.accepted c.in_ok-compiled.compiled c.in-Ok.work c.in_ok-ran.ran c.in_ok-compiled.ensures.same c.accepted.ensures.planned
    c.in_ok-compiled.ensures.planned c.in_ok-ran.ensures.run))
    c.requires

pub write_summary-requires-clause-rows : goal.write_summary-requires-clause-rows
write_summary-requires-clause-rows g c =
    rows_are_few c.args.seed c.args.calls c.in_ok-ran.ran
    (run_of_generated c.args.seed c.args.calls c.in_ok-accepted.accepted c.in-Ok.work c.in_ok-ran.ran c.in_ok-accepted.ensures c.in-Ok.ensures.value
    (planned_run c.in_ok-accepted.accepted c.in_ok-compiled.compiled c.in-Ok.work c.in_ok-ran.ran c.in_ok-compiled.ensures.same c.accepted.ensures.planned
    c.in_ok-compiled.ensures.planned c.in_ok-ran.ensures.run))
    c.requires

pub returns-clause-written : goal.returns-clause-written
returns-clause-written g c =
    handed_text c.in_ok-ran.ran c.write_summary.result c.and.result c.and.ensures (IsBigText c.args.seed c.args.calls) (g.K.Sink.held c.args.sink.now) (g.K.Sink.held c.write_summary.new.sink)
    (ran_text c.in_ok-ran.ran)
    (is_big c.args.seed c.args.calls c.in_ok-ran.ran
    (run_of_generated c.args.seed c.args.calls c.in_ok-accepted.accepted c.in-Ok.work c.in_ok-ran.ran c.in_ok-accepted.ensures c.in-Ok.ensures.value
    (planned_run c.in_ok-accepted.accepted c.in_ok-compiled.compiled c.in-Ok.work c.in_ok-ran.ran c.in_ok-compiled.ensures.same c.accepted.ensures.planned
    c.in_ok-compiled.ensures.planned c.in_ok-ran.ensures.run)))
    c.write_summary.ensures.ok c.write_summary.ensures.prefix

pub returns-clause-ran : goal.returns-clause-ran
returns-clause-ran g c =
    let old = g.K.Sink.held c.args.sink.now in
    let new = g.K.Sink.held c.write_summary.new.sink in
    handed_on c.in_ok-ran.ran c.write_summary.result c.and.result c.and.ensures (HasSummaryText c.args.seed c.args.calls old new)
    (has_summary c.args.seed c.args.calls c.in_ok-ran.ran
    (run_of_generated c.args.seed c.args.calls c.in_ok-accepted.accepted c.in-Ok.work c.in_ok-ran.ran c.in_ok-accepted.ensures c.in-Ok.ensures.value
    (planned_run c.in_ok-accepted.accepted c.in_ok-compiled.compiled c.in-Ok.work c.in_ok-ran.ran c.in_ok-compiled.ensures.same c.accepted.ensures.planned
    c.in_ok-compiled.ensures.planned c.in_ok-ran.ensures.run))
    old new c.write_summary.result c.in_ok-ran.ensures.store c.write_summary.ensures.ok)

pub returns-clause-faults : goal.returns-clause-faults
returns-clause-faults g c =
    handed_counts c.in_ok-ran.ran c.write_summary.result c.and.result c.and.ensures (g.K.Sink.faults c.args.sink.now) (g.K.Sink.faults c.write_summary.new.sink) c.write_summary.ensures.faults
