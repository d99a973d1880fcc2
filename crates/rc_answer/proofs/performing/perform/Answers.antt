use Rattle.std.proofs.Common.{◌≡◌}
use Rattle.rc_answer.proofs.Imports.{Adds, IsOfItsStore, IsReportBy, IsRunBy, is_report, run_text}
use Rattle.rc_answer.proofs.RanLemmas.{handed_counts, handed_on, handed_text, handed_whole}
use Rattle.rc_answer.proofs.performing.perform.Goals as goal

pub returns-clause-run : goal.returns-clause-run
returns-clause-run g c =
    handed_whole c.in_ok-ran.ran c.write_run.result c.and.result c.and.ensures (IsRunBy (λ plans. plans ≡ c.args.compiled.plans) c.args.compiled.spec c.args.work.now)
    c.in_ok-ran.ensures.run

pub returns-clause-store : goal.returns-clause-store
returns-clause-store g c = handed_whole c.in_ok-ran.ran c.write_run.result c.and.result c.and.ensures IsOfItsStore c.in_ok-ran.ensures.store

pub returns-clause-text : goal.returns-clause-text
returns-clause-text g c =
    handed_on c.in_ok-ran.ran c.write_run.result c.and.result c.and.ensures
    (λ ran. Adds (g.K.Sink.held c.args.sink.now) (run_text c.args.work.now.ranks ran) (g.K.Sink.held c.write_run.new.sink)) c.write_run.ensures.ok

pub returns-clause-written : goal.returns-clause-written
returns-clause-written g c =
    handed_text c.in_ok-ran.ran c.write_run.result c.and.result c.and.ensures (IsReportBy (λ plans. plans ≡ c.args.compiled.plans) c.args.compiled.spec c.args.work.now)
    (g.K.Sink.held c.args.sink.now) (g.K.Sink.held c.write_run.new.sink) (run_text c.args.work.now.ranks c.in_ok-ran.ran)
    (is_report (λ plans. plans ≡ c.args.compiled.plans) c.args.compiled.spec c.args.work.now c.in_ok-ran.ran c.in_ok-ran.ensures.run)
    c.write_run.ensures.ok c.write_run.ensures.prefix

pub returns-clause-faults : goal.returns-clause-faults
returns-clause-faults g c =
    handed_counts c.in_ok-ran.ran c.write_run.result c.and.result c.and.ensures (g.K.Sink.faults c.args.sink.now) (g.K.Sink.faults c.write_run.new.sink)
    c.write_run.ensures.faults
