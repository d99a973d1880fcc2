use Rattle.std.proofs.Common.{◌≡◌, ◌∙◌, ◌++◌, List, ap, length, refl, subst}
use Rattle.rc_answer.proofs.Imports.{Adds, IsOfItsStore, IsOpenReport, IsRunOf, OnOk, OpenWork, Spec, open_text, run_text, shapes_text, with_operations}
use Rattle.rc_answer.proofs.OpenLemmas.{extended_run, is_open_report, text_is}
use Rattle.rc_answer.proofs.RanLemmas.{handed_counts, handed_on, handed_text, handed_whole}
use Rattle.rc_answer.proofs.open_run.perform_open.Goals as goal

pub returns-clause-run : goal.returns-clause-run
returns-clause-run g c =
    let read : OpenWork = record { shapes = c.args.shapes; work = c.args.work.now } in
    let run = extended_run c.args.accepted (with_operations c.args.accepted c.args.shapes) c.in_ok-compiled.compiled read c.in_ok-ran.ran refl
    c.in_ok-compiled.ensures.same c.accepted.ensures.planned c.in_ok-compiled.ensures.planned c.in_ok-ran.ensures.run in
    handed_whole c.in_ok-ran.ran c.write_open_run.result c.and.result c.and.ensures (IsRunOf (with_operations c.args.accepted c.args.shapes) c.args.work.now) run

pub returns-clause-store : goal.returns-clause-store
returns-clause-store g c = handed_whole c.in_ok-ran.ran c.write_open_run.result c.and.result c.and.ensures IsOfItsStore c.in_ok-ran.ensures.store

pub returns-clause-text : goal.returns-clause-text
returns-clause-text g c =
    let read : OpenWork = record { shapes = c.args.shapes; work = c.args.work.now } in
    let run = extended_run c.args.accepted (with_operations c.args.accepted c.args.shapes) c.in_ok-compiled.compiled read c.in_ok-ran.ran refl
    c.in_ok-compiled.ensures.same c.accepted.ensures.planned c.in_ok-compiled.ensures.planned c.in_ok-ran.ensures.run in
    let declared = length c.list-declared.result.now in
    let count : declared ≡ length c.args.accepted.ops = ap length c.list-declared.ensures ∙ ap (λ (s : Spec). length s.ops) c.spec.ensures.value in
    let old = g.K.Sink.held c.args.sink.now in
    let new = g.K.Sink.held c.write_open_run.new.sink in
    handed_on c.in_ok-ran.ran c.write_open_run.result c.and.result c.and.ensures (λ ran. Adds old (shapes_text c.args.accepted c.args.shapes ++ run_text c.args.work.now.ranks ran) new)
    (subst (λ (l : List _). OnOk c.write_open_run.result (Adds old l new)) (text_is c.args.accepted read c.in_ok-ran.ran run declared count) c.write_open_run.ensures.ok)

pub returns-clause-written : goal.returns-clause-written
returns-clause-written g c =
    let read : OpenWork = record { shapes = c.args.shapes; work = c.args.work.now } in
    let run = extended_run c.args.accepted (with_operations c.args.accepted c.args.shapes) c.in_ok-compiled.compiled read c.in_ok-ran.ran refl
    c.in_ok-compiled.ensures.same c.accepted.ensures.planned c.in_ok-compiled.ensures.planned c.in_ok-ran.ensures.run in
    let declared = length c.list-declared.result.now in
    let count : declared ≡ length c.args.accepted.ops = ap length c.list-declared.ensures ∙ ap (λ (s : Spec). length s.ops) c.spec.ensures.value in
    let old = g.K.Sink.held c.args.sink.now in
    let new = g.K.Sink.held c.write_open_run.new.sink in
    handed_text c.in_ok-ran.ran c.write_open_run.result c.and.result c.and.ensures (IsOpenReport c.args.accepted read) old new (open_text declared c.args.work.now.ranks c.in_ok-ran.ran)
    (is_open_report c.args.accepted read c.in_ok-ran.ran run declared count) c.write_open_run.ensures.ok c.write_open_run.ensures.prefix

pub returns-clause-faults : goal.returns-clause-faults
returns-clause-faults g c =
    handed_counts c.in_ok-ran.ran c.write_open_run.result c.and.result c.and.ensures (g.K.Sink.faults c.args.sink.now) (g.K.Sink.faults c.write_open_run.new.sink) c.write_open_run.ensures.faults
