use Rattle.std.proofs.Common.{◌≡◌, refl, subst, sym}
use Rattle.rc_answer.proofs.Imports.{IsRead, rest_place, IsAccepted, Spec, HasOpenText, HasOpenWorkText, status_in}
use Rattle.rc_answer.proofs.ByHandLemmas.{each_ran}
use Rattle.rc_answer.proofs.OpenLemmas.{open_answers, open_refusal_answers, opened_text}
use Rattle.rc_answer.proofs.open_run.answer_open.Goals as goal

pub returns-in-Err-clause-written : goal.returns-in-Err-clause-written
returns-in-Err-clause-written g c =
    open_refusal_answers c.args.text.now c.in-Err.refusal (g.K.Sink.held c.args.sink.now) (g.K.Sink.held c.refuse_run.new.sink)
    (status_in c.refuse_run.result) c.in-Err.ensures.exact c.refuse_run.ensures.written

pub returns-in-Ok-accept-clause-written : goal.returns-in-Ok-accept-clause-written
returns-in-Ok-accept-clause-written g c =
    let text = c.args.text.now in
    let spec : Spec = c.in-Ok-accept.accepted in
    let same : spec ≡ c.in-Ok.read.0 = c.in-Ok-accept.ensures.value in
    let found = c.in-Ok.ensures.exact in
    let is : IsRead text spec c.in-Ok.read.1 found.0 = subst (λ (s : Spec). IsRead text s c.in-Ok.read.1 found.0) (sym same) found.2 in
    let accepted : IsAccepted spec = subst (λ (s : Spec). IsAccepted s) (sym same) (c.in-Ok-accept.ensures.accepted refl) in
    open_answers text found.0 spec c.in-Ok.read.1 found.1 is accepted (g.K.Sink.held c.args.sink.now) (g.K.Sink.held c.run_open.new.sink)
    (status_in c.run_open.result) c.run_open.ensures.written

pub returns-in-Ok-accept-clause-ran : goal.returns-in-Ok-accept-clause-ran
returns-in-Ok-accept-clause-ran g c =
    let text = c.args.text.now in
    let spec : Spec = c.in-Ok-accept.accepted in
    let same : spec ≡ c.in-Ok.read.0 = c.in-Ok-accept.ensures.value in
    let found = c.in-Ok.ensures.exact in
    let is : IsRead text spec c.in-Ok.read.1 found.0 = subst (λ (s : Spec). IsRead text s c.in-Ok.read.1 found.0) (sym same) found.2 in
    let accepted : IsAccepted spec = subst (λ (s : Spec). IsAccepted s) (sym same) (c.in-Ok-accept.ensures.accepted refl) in
    let old = g.K.Sink.held c.args.sink.now in
    let new = g.K.Sink.held c.run_open.new.sink in
    each_ran (HasOpenWorkText c.in-Ok.read.1.version spec (rest_place text c.in-Ok.read.1) old new) (HasOpenText text old new) c.run_open.result
    (opened_text text found.0 spec c.in-Ok.read.1 found.1 is accepted old new) c.run_open.ensures.ran
