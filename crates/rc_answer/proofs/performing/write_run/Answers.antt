use Rattle.std.proofs.Common.{◌∙◌, ap, sym}
use Rattle.rc_answer.proofs.Imports.{option_copied, entries_in}
use Rattle.rc_answer.proofs.RanLemmas.{on_err_both, plans_part, report_part}
use Rattle.rc_answer.proofs.WriteLemmas.{on_err}
use Rattle.rc_answer.proofs.performing.write_run.Goals as goal

pub returns-in_err-write_plans-clause-prefix : goal.returns-in_err-write_plans-clause-prefix
returns-in_err-write_plans-clause-prefix g c =
    let ran = c.args.ran.now in
    on_err _ c.from_residual.result
    (plans_part ran.closed.compiled c.compiled-compiled.result.now c.compiled-compiled.ensures ran.closed.journal c.args.work.now.ranks ran.last
    (g.K.Sink.held c.args.sink.now) (g.K.Sink.held c.write_plans.new.sink) c.in_err-write_plans.ensures.prefix)

pub returns-clause-prefix : goal.returns-clause-prefix
returns-clause-prefix g c =
    let ran = c.args.ran.now in
    on_err_both c.write_report.result
    (report_part ran.closed.compiled c.compiled-compiled.result.now c.compiled-compiled.ensures ran.closed.journal c.args.work.now.ranks ran.last
    (g.K.Sink.held c.args.sink.now) (g.K.Sink.held c.write_plans.new.sink) (g.K.Sink.held c.write_report.new.sink)
    c.spec.result.now c.entries.result.now c.list.result.now
    (c.spec.ensures.value ∙ c.accepted.ensures.value)
    (c.entries.ensures ∙ ap (λ o. entries_in (option_copied o)) (sym c.in-Some.is) ∙ ap entries_in c.journal.ensures)
    c.list.ensures c.in_ok-write_plans.ensures.ok)
    c.write_report.ensures.prefix
