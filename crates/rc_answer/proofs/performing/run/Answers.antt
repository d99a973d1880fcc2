use Rattle.std.proofs.Common.{◌≡◌, Err, Ok, refl, sym, subst}
use Rattle.rc_answer.proofs.Imports.{IsRead, ReadsAs, rest_place, spec_reading, Spec, IsAccepted, work_reading, AnswersRun, IsReport, done_in, status_in, Writes}
use Rattle.rc_answer.proofs.AnswerLemmas.{refusal_answers, report_answers, spec_refusal_answers, writes_wider}
use Rattle.rc_answer.proofs.RanLemmas.{done_has_ran, done_ran, done_status, read_as}
use Rattle.rc_answer.proofs.performing.run.Goals as goal

pub returns-in-Ok-read_work-clause-written : goal.returns-in-Ok-read_work-clause-written
returns-in-Ok-read_work-clause-written g c =
    let text = c.args.text.now in
    let spec : Spec = c.in-Ok-accept.accepted in
    let same : spec ≡ c.in-Ok.read.0 = c.in-Ok-accept.ensures.value in
    let found = c.in-Ok.ensures.exact in
    let is : IsRead text spec c.in-Ok.read.1 found.0 = subst (λ (s : Spec). IsRead text s c.in-Ok.read.1 found.0) (sym same) found.2 in
    let accepted : IsAccepted spec = subst (λ (s : Spec). IsAccepted s) (sym same) (c.in-Ok-accept.ensures.accepted refl) in
    let read : work_reading c.args.also spec (rest_place text c.in-Ok.read.1) ≡ Ok c.in-Ok-read_work.work =
    subst (λ (s : Spec). work_reading c.args.also s (rest_place text c.in-Ok.read.1) ≡ Ok c.in-Ok-read_work.work) c.spec.ensures.value c.in-Ok-read_work.ensures.exact in
    subst (Writes (AnswersRun c.args.also text (spec_reading text)) (g.K.Sink.held c.args.sink.now) (g.K.Sink.held c.perform_planned-ran.new.sink)) (done_status c.perform_planned-ran.result c.with_run.result c.with_run.ensures)
    (writes_wider (IsReport spec c.in-Ok-read_work.work) (AnswersRun c.args.also text (spec_reading text)) (g.K.Sink.held c.args.sink.now) (g.K.Sink.held c.perform_planned-ran.new.sink) (done_in c.perform_planned-ran.result)
    (report_answers c.args.also text found.0 spec c.in-Ok.read.1 found.1 is accepted c.in-Ok-read_work.work read) c.perform_planned-ran.ensures.written)

pub returns-in-Ok-read_work-clause-has_ran : goal.returns-in-Ok-read_work-clause-has_ran
returns-in-Ok-read_work-clause-has_ran g c = done_has_ran c.perform_planned-ran.result c.with_run.result c.with_run.ensures

pub returns-in-Ok-read_work-clause-ran : goal.returns-in-Ok-read_work-clause-ran
returns-in-Ok-read_work-clause-ran g c =
    let text = c.args.text.now in
    let spec : Spec = c.in-Ok-accept.accepted in
    let same : spec ≡ c.in-Ok.read.0 = c.in-Ok-accept.ensures.value in
    let found = c.in-Ok.ensures.exact in
    let is : IsRead text spec c.in-Ok.read.1 found.0 = subst (λ (s : Spec). IsRead text s c.in-Ok.read.1 found.0) (sym same) found.2 in
    let accepted : IsAccepted spec = subst (λ (s : Spec). IsAccepted s) (sym same) (c.in-Ok-accept.ensures.accepted refl) in
    let read : work_reading c.args.also spec (rest_place text c.in-Ok.read.1) ≡ Ok c.in-Ok-read_work.work =
    subst (λ (s : Spec). work_reading c.args.also s (rest_place text c.in-Ok.read.1) ≡ Ok c.in-Ok-read_work.work) c.spec.ensures.value c.in-Ok-read_work.ensures.exact in
    done_ran c.args.also text spec c.in-Ok-read_work.work (g.K.Sink.held c.args.sink.now) (g.K.Sink.held c.perform_planned-ran.new.sink)
    (read_as c.args.also text found.0 spec c.in-Ok.read.1 c.in-Ok-read_work.work found.1 is accepted read)
    c.perform_planned-ran.result c.with_run.result c.with_run.ensures c.perform_planned-ran.ensures.run c.perform_planned-ran.ensures.store c.perform_planned-ran.ensures.text

pub returns-in-Err-read_work-clause-written : goal.returns-in-Err-read_work-clause-written
returns-in-Err-read_work-clause-written g c =
    let text = c.args.text.now in
    let spec : Spec = c.in-Ok-accept.accepted in
    let same : spec ≡ c.in-Ok.read.0 = c.in-Ok-accept.ensures.value in
    let found = c.in-Ok.ensures.exact in
    let is : IsRead text spec c.in-Ok.read.1 found.0 = subst (λ (s : Spec). IsRead text s c.in-Ok.read.1 found.0) (sym same) found.2 in
    let accepted : IsAccepted spec = subst (λ (s : Spec). IsAccepted s) (sym same) (c.in-Ok-accept.ensures.accepted refl) in
    refusal_answers c.args.also text found.0 spec c.in-Ok.read.1 found.1 is accepted c.in-Err-read_work.refusal
    (g.K.Sink.held c.args.sink.now) (g.K.Sink.held c.refuse_run-in-Err-read_work.new.sink) (status_in c.refuse_run-in-Err-read_work.result)
    (subst (λ (s : Spec). ReadsAs (Err c.in-Err-read_work.refusal) (work_reading c.args.also s (rest_place text c.in-Ok.read.1))) c.spec.ensures.value c.in-Err-read_work.ensures.exact)
    c.refuse_run-in-Err-read_work.ensures.written

pub returns-in-Err-clause-written : goal.returns-in-Err-clause-written
returns-in-Err-clause-written g c =
    spec_refusal_answers c.args.also c.args.text.now c.in-Err.refusal (g.K.Sink.held c.args.sink.now) (g.K.Sink.held c.refuse_run.new.sink)
    (status_in c.refuse_run.result) c.in-Err.ensures.exact c.refuse_run.ensures.written
