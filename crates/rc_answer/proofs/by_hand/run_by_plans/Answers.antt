use Rattle.std.proofs.Common.{◌∙◌, refl, subst, sym}
use Rattle.rc_answer.proofs.Imports.{content_from, past_end_of, IsWellNamed, rest_place, AnswersChosen, done_in, HasChosenText, Writes}
use Rattle.rc_answer.proofs.ByHandLemmas.{chosen_answers, chosen_text, of_operations}
use Rattle.rc_answer.proofs.RanLemmas.{done_each, done_status}
use Rattle.rc_answer.proofs.by_hand.run_by_plans.Goals as goal

pub refuse_plan-requires : goal.refuse_plan-requires
refuse_plan-requires g c = of_operations c.args.accepted c.args.hands.items c.in-Err.fault c.requires.hands c.in-Err.ensures.refused

pub read_work-requires-clause-well_named : goal.read_work-requires-clause-well_named
read_work-requires-clause-well_named g c =
    subst IsWellNamed (sym (c.spec-spec.ensures.value ∙ c.accepted.ensures.value ∙ c.in-Ok.ensures.same)) c.requires.well_named

pub returns-in-Ok-read_work-clause-written : goal.returns-in-Ok-read_work-clause-written
returns-in-Ok-read_work-clause-written g c =
    let lines = content_from (rest_place c.args.text.now c.args.behind) in
    let old = g.K.Sink.held c.args.sink.now in
    let new = g.K.Sink.held c.perform-ran.new.sink in
    subst (Writes (AnswersChosen (past_end_of c.args.text.now) c.args.accepted c.args.hands.items lines) old new)
    (done_status c.perform-ran.result c.with_run.result c.with_run.ensures)
    (chosen_answers c.args.accepted c.spec-spec.result.now c.args.hands.items c.in-Ok.compiled c.in-Ok-read_work.work c.args.text.now c.args.behind
    c.in-Ok.ensures.same c.in-Ok.ensures.chosen (c.in-Ok.ensures.kept refl)
    (c.spec-spec.ensures.value ∙ c.accepted.ensures.value ∙ c.in-Ok.ensures.same) c.in-Ok-read_work.ensures.exact
    old new (done_in c.perform-ran.result) c.perform-ran.ensures.written)

pub returns-in-Ok-read_work-clause-ran : goal.returns-in-Ok-read_work-clause-ran
returns-in-Ok-read_work-clause-ran g c =
    let lines = content_from (rest_place c.args.text.now c.args.behind) in
    let old = g.K.Sink.held c.args.sink.now in
    let new = g.K.Sink.held c.perform-ran.new.sink in
    done_each (HasChosenText (past_end_of c.args.text.now) c.args.accepted c.args.hands.items lines old new) c.perform-ran.result c.with_run.result
    c.with_run.ensures
    (chosen_text c.args.accepted c.spec-spec.result.now c.args.hands.items c.in-Ok.compiled c.in-Ok-read_work.work c.args.text.now c.args.behind
    c.in-Ok.ensures.same c.in-Ok.ensures.chosen (c.in-Ok.ensures.kept refl)
    (c.spec-spec.ensures.value ∙ c.accepted.ensures.value ∙ c.in-Ok.ensures.same) c.in-Ok-read_work.ensures.exact
    old new c.perform-ran.result c.perform-ran.ensures.run c.perform-ran.ensures.store c.perform-ran.ensures.text)
