use Rattle.std.proofs.Common.{◌+◌, ◌≤◌, length, arith, subst, sym}
use Rattle.rc_answer.proofs.Imports.{AllByRecursion, IsAccepted, IsSealed, Spec, rest_place, open_reading, OpenWork, IsShapeOf, with_operations, sealed_over, AnswersOpenWork, HasOpenWorkText, done_in, status_in, Writes}
use Rattle.rc_answer.proofs.OpenLemmas.{open_work_answers, open_work_refusal, open_work_text}
use Rattle.rc_answer.proofs.RanLemmas.{done_each, done_status}
use Rattle.rc_answer.proofs.open_run.run_open.Goals as goal

pub returns-in-Err-clause-written : goal.returns-in-Err-clause-written
returns-in-Err-clause-written g c =
    open_work_refusal c.args.rest.version c.args.accepted c.spec.result.now (rest_place c.args.text.now c.args.rest) c.in-Err.refusal
    (g.K.Sink.held c.args.sink.now) (g.K.Sink.held c.refuse_run.new.sink) (status_in c.refuse_run.result) c.spec.ensures.value c.in-Err.ensures.exact
    c.refuse_run.ensures.written

pub returns-in-Ok-clause-written : goal.returns-in-Ok-clause-written
returns-in-Ok-clause-written g c =
    let old = g.K.Sink.held c.args.sink.now in
    let new = g.K.Sink.held c.perform_open-ran.new.sink in
    subst (Writes (AnswersOpenWork c.args.accepted (open_reading c.args.rest.version c.args.accepted (rest_place c.args.text.now c.args.rest))) old new)
    (done_status c.perform_open-ran.result c.with_run.result c.with_run.ensures)
    (open_work_answers c.args.rest.version c.args.accepted c.spec.result.now (rest_place c.args.text.now c.args.rest) c.in-Ok.read c.spec.ensures.value
    c.in-Ok.ensures.exact old new (done_in c.perform_open-ran.result) c.perform_open-ran.ensures.written)

pub returns-in-Ok-clause-ran : goal.returns-in-Ok-clause-ran
returns-in-Ok-clause-ran g c =
    let place = rest_place c.args.text.now c.args.rest in
    let old = g.K.Sink.held c.args.sink.now in
    let new = g.K.Sink.held c.perform_open-ran.new.sink in
    let read : OpenWork = c.in-Ok.read in
    let shapes = subst (λ (s : Spec). AllByRecursion (IsShapeOf s) read.shapes) c.spec.ensures.value c.in-Ok.ensures.shapes in
    let few : length c.args.accepted.ops + length read.shapes ≤ 64 = omega (arith, c.requires.few, c.in-Ok.ensures.few) in
    let sealed = subst (λ (s : Spec). IsSealed s) c.spec.ensures.value (subst (λ (s : Spec). IsSealed s) (sym c.spec.ensures.value) c.spec.ensures.sealed) in
    let extended : IsAccepted (with_operations c.args.accepted read.shapes) = (sealed_over c.args.accepted read.shapes shapes few sealed).accepted in
    done_each (HasOpenWorkText c.args.rest.version c.args.accepted place old new) c.perform_open-ran.result c.with_run.result c.with_run.ensures
    (open_work_text c.args.rest.version c.args.accepted c.spec.result.now place read c.spec.ensures.value c.in-Ok.ensures.exact old new
    c.perform_open-ran.result extended c.in-Ok.ensures.single c.perform_open-ran.ensures.run c.perform_open-ran.ensures.store c.perform_open-ran.ensures.text)
