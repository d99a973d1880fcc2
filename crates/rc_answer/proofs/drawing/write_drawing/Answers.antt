use Rattle.std.proofs.Common.{◌∙◌, refl}
use Rattle.rc_answer.proofs.Imports.{drawing_text, IsDrawing}
use Rattle.rc_answer.proofs.DrawingLemmas.{text_begun, text_written}
use Rattle.rc_answer.proofs.drawing.write_drawing.Goals as goal

pub returns-in_err-write_text-clause-written : goal.returns-in_err-write_text-clause-written
returns-in_err-write_text-clause-written g c =
    text_begun (IsDrawing c.args.accepted.now) (drawing_text c.args.accepted.now) c.deref.result.now (g.K.Sink.held c.args.sink.now) (g.K.Sink.held c.write_text.new.sink)
    c.from_residual-in_err-write_text.result c.from_residual-in_err-write_text.ensures.0 (refl, refl) (c.deref.ensures.value ∙ c.in_ok-text.ensures) c.in_err-write_text.ensures.prefix

pub returns-clause-written : goal.returns-clause-written
returns-clause-written g c =
    text_written (IsDrawing c.args.accepted.now) (drawing_text c.args.accepted.now) c.deref.result.now (g.K.Sink.held c.args.sink.now) (g.K.Sink.held c.write_text.new.sink)
    (refl, refl) (c.deref.ensures.value ∙ c.in_ok-text.ensures) c.in_ok-write_text.ensures.ok
