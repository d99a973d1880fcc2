use Rattle.std.proofs.Common.{Some, None}
use Rattle.rc_answer.proofs.DrawingLemmas.{drawn_by_name, operation_found}
use Rattle.rc_answer.proofs.drawing.write_drawn_plan.Goals as goal

pub returns-in-Some-clause-written : goal.returns-in-Some-clause-written
returns-in-Some-clause-written g c =
    drawn_by_name c.args.accepted c.args.name.now (Some c.in-Some.op) (g.K.Sink.held c.args.sink.now) (g.K.Sink.held c.write_plan_of.new.sink) c.write_plan_of.result
    (operation_found c.args.accepted c.spec.result.now c.list.result.now c.args.name.now c.number_among.result (Some c.in-Some.op)
    c.spec.ensures.value c.list.ensures c.number_among.ensures.number c.in-Some.is)
    c.write_plan_of.ensures.written

pub returns-in-None-clause-written : goal.returns-in-None-clause-written
returns-in-None-clause-written g c =
    drawn_by_name c.args.accepted c.args.name.now None (g.K.Sink.held c.args.sink.now) (g.K.Sink.held c.refuse_operation.new.sink) c.refuse_operation.result
    (operation_found c.args.accepted c.spec.result.now c.list.result.now c.args.name.now c.number_among.result None
    c.spec.ensures.value c.list.ensures c.number_among.ensures.number c.in-None.is)
    c.refuse_operation.ensures.written
