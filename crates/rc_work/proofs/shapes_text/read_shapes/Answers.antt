use Rattle.std.proofs.Common.{◌≡◌, Ok, sym, ◌∙◌, subst}
use Rattle.rc_work.proofs.Imports.{Refuses, refusal_at, content_from, past_end_of, shapes_of, shapes_of-are}
use Rattle.rc_work.proofs.ShapesReadingLemmas.{from_start, refused, whole}
use Rattle.rc_work.proofs.shapes_text.read_shapes.Goals.{In-Ok}
use Rattle.rc_work.proofs.shapes_text.read_shapes.Goals as goal

read : (c : In-Ok) → shapes_of c.args.version c.args.spec.now c.args.bytes.now ≡ Ok c.read_lines.new.state
read c =
    from_start c.args.version c.args.spec.now c.args.bytes.now c.new-shapes.result c.new-lines.result c.new-shapes.ensures c.new-lines.ensures
    ∙ whole c.args.version c.args.spec.now (past_end_of c.args.bytes.now) c.new-shapes.result (content_from c.new-lines.result) c.in-Ok.field-0
    c.read_lines.new.state (content_from c.read_lines.new.lines) c.in-Ok.ensures.lines

pub returns-in-Ok-clause-exact : goal.returns-in-Ok-clause-exact
returns-in-Ok-clause-exact c = read (goal.at.returns-in-Ok-clause-exact c).In-Ok

pub returns-in-Ok-clause-few : goal.returns-in-Ok-clause-few
returns-in-Ok-clause-few c =
    (shapes_of-are c.args.spec.now c.args.version c.args.bytes.now c.read_lines.new.state (read (goal.at.returns-in-Ok-clause-few c).In-Ok)).few

pub returns-in-Ok-clause-shapes : goal.returns-in-Ok-clause-shapes
returns-in-Ok-clause-shapes c =
    (shapes_of-are c.args.spec.now c.args.version c.args.bytes.now c.read_lines.new.state (read (goal.at.returns-in-Ok-clause-shapes c).In-Ok)).each

pub returns-in-Err-clause-exact : goal.returns-in-Err-clause-exact
returns-in-Err-clause-exact c =
    rw c.at.ensures
    (subst (Refuses (refusal_at c.in-Err.unread.fault c.in-Err.unread.line))
    (sym (from_start c.args.version c.args.spec.now c.args.bytes.now c.new-shapes.result c.new-lines.result c.new-shapes.ensures c.new-lines.ensures))
    (refused c.args.version c.args.spec.now (past_end_of c.args.bytes.now) c.new-shapes.result (content_from c.new-lines.result) c.in-Err.unread
    c.in-Err.ensures.lines))
