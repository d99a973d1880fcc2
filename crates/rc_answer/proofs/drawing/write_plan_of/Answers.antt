use Rattle.std.proofs.Common.{◌∙◌, refl}
use Rattle.rc_answer.proofs.Imports.{plan_drawing_text, SpecWithPlans, plan_at, IsPlanDrawing}
use Rattle.rc_answer.proofs.DrawingLemmas.{drawing_printed, text_begun, text_written}
use Rattle.rc_answer.proofs.drawing.write_plan_of.Goals as goal

pub returns-in_err-write_text-clause-written : goal.returns-in_err-write_text-clause-written
returns-in_err-write_text-clause-written g c =
    let made : SpecWithPlans = c.in_ok-compiled.compiled in
    let plan = plan_at made.plans c.args.op in
    text_begun (IsPlanDrawing c.args.accepted c.args.op) (plan_drawing_text c.args.accepted c.args.op plan) c.deref.result.now
    (g.K.Sink.held c.args.sink.now) (g.K.Sink.held c.write_text.new.sink) c.from_residual-in_err-write_text.result c.from_residual-in_err-write_text.ensures.0
    (plan, c.in_ok-compiled.ensures.planned c.args.op c.requires, refl, refl)
    (drawing_printed c.args.accepted c.accepted.result.now c.args.op plan c.plan.result.now c.in_ok-text.field-0.items c.deref.result.now
    (c.accepted.ensures.value ∙ c.in_ok-compiled.ensures.same) c.plan.ensures.value c.in_ok-text.ensures c.deref.ensures.value)
    c.in_err-write_text.ensures.prefix

pub returns-clause-written : goal.returns-clause-written
returns-clause-written g c =
    let made : SpecWithPlans = c.in_ok-compiled.compiled in
    let plan = plan_at made.plans c.args.op in
    text_written (IsPlanDrawing c.args.accepted c.args.op) (plan_drawing_text c.args.accepted c.args.op plan) c.deref.result.now
    (g.K.Sink.held c.args.sink.now) (g.K.Sink.held c.write_text.new.sink)
    (plan, c.in_ok-compiled.ensures.planned c.args.op c.requires, refl, refl)
    (drawing_printed c.args.accepted c.accepted.result.now c.args.op plan c.plan.result.now c.in_ok-text.field-0.items c.deref.result.now
    (c.accepted.ensures.value ∙ c.in_ok-compiled.ensures.same) c.plan.ensures.value c.in_ok-text.ensures c.deref.ensures.value)
    c.in_ok-write_text.ensures.ok
