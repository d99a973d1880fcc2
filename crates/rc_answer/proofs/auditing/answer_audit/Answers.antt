use Rattle.std.proofs.Common.{◌≡◌, Err, Ok, refl, sym, subst}
use Rattle.rc_answer.proofs.Imports.{IsRead, rest_place, spec_reading, Spec, IsAccepted, content_from, past_end_of, ReadsPart, Also, part_reading, AnswersAudit, IsJudgement}
use Rattle.rc_answer.proofs.AnswerLemmas.{judgement_answers, part_refusal_answers, writes_wider}
use Rattle.rc_answer.proofs.auditing.answer_audit.Goals as goal

pub returns-in-Ok-read_work_part-clause-written : goal.returns-in-Ok-read_work_part-clause-written
returns-in-Ok-read_work_part-clause-written g c =
    let text = c.args.text.now in
    let spec : Spec = c.in-Ok-accept.accepted in
    let same : spec ≡ c.in-Ok.read.0 = c.in-Ok-accept.ensures.value in
    let found = c.in-Ok.ensures.exact in
    let is : IsRead text spec c.in-Ok.read.1 found.0 = subst (λ (s : Spec). IsRead text s c.in-Ok.read.1 found.0) (sym same) found.2 in
    let accepted : IsAccepted spec = subst (λ (s : Spec). IsAccepted s) (sym same) (c.in-Ok-accept.ensures.accepted refl) in
    let work = c.in-Ok-read_work_part.work in
    let behind = c.in-Ok-read_work_part.behind in
    let read = subst (λ (x : Spec × Also). ReadsPart text c.in-Ok.read.1.version (Ok (work, behind)) (part_reading x.1 x.0 (rest_place text c.in-Ok.read.1))) (λ i. (c.spec.ensures.value i, c.also_in.ensures i)) c.in-Ok-read_work_part.ensures.exact in
    writes_wider (IsJudgement c.args.form spec work (past_end_of text) (content_from (rest_place text behind))) (AnswersAudit c.args.form text (spec_reading text)) (g.K.Sink.held c.args.sink.now) (g.K.Sink.held c.write_judgement-status.new.sink) c.write_judgement-status.result
    (judgement_answers c.args.form text found.0 spec c.in-Ok.read.1 found.1 is accepted read.0 read.1 work behind read.2 read.3) c.write_judgement-status.ensures.written

pub returns-in-Err-read_work_part-clause-written : goal.returns-in-Err-read_work_part-clause-written
returns-in-Err-read_work_part-clause-written g c =
    let text = c.args.text.now in
    let spec : Spec = c.in-Ok-accept.accepted in
    let same : spec ≡ c.in-Ok.read.0 = c.in-Ok-accept.ensures.value in
    let found = c.in-Ok.ensures.exact in
    let is : IsRead text spec c.in-Ok.read.1 found.0 = subst (λ (s : Spec). IsRead text s c.in-Ok.read.1 found.0) (sym same) found.2 in
    let accepted : IsAccepted spec = subst (λ (s : Spec). IsAccepted s) (sym same) (c.in-Ok-accept.ensures.accepted refl) in
    part_refusal_answers c.args.form text found.0 spec c.in-Ok.read.1 found.1 is accepted c.in-Err-read_work_part.refusal
    (g.K.Sink.held c.args.sink.now) (g.K.Sink.held c.refuse-in-Err-read_work_part.new.sink) c.refuse-in-Err-read_work_part.result
    (subst (λ (x : Spec × Also). ReadsPart text c.in-Ok.read.1.version (Err c.in-Err-read_work_part.refusal) (part_reading x.1 x.0 (rest_place text c.in-Ok.read.1))) (λ i. (c.spec.ensures.value i, c.also_in.ensures i)) c.in-Err-read_work_part.ensures.exact)
    c.refuse-in-Err-read_work_part.ensures.written
