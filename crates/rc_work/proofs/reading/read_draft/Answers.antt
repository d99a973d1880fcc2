use Rattle.std.proofs.Common.{sym, ap, subst, ◌∙◌}
use Rattle.rc_work.proofs.Imports.{content_from, past_end_of, Refuses, refusal_at, S8, broken_at}
use Rattle.rc_work.proofs.ReadingLemmas.{behind_header, whole, unended, refused}
use Rattle.rc_work.proofs.reading.read_draft.Goals as goal

pub returns-in-Err : goal.returns-in-Err
returns-in-Err c =
    rw c.at.ensures
    (subst (Refuses (refusal_at c.in-Err.unread.fault c.in-Err.unread.line))
    (sym (behind_header c.args.also c.args.spec.now c.args.lines.now c.read_header.new.lines c.in_ok-threads.threads _ c.new-draft.ensures c.in_ok-threads.ensures.ok))
    (refused c.args.also c.args.spec.now (past_end_of c.args.lines.now.text) _ (content_from c.read_header.new.lines) c.in-Err.unread
    c.in-Err.ensures.lines))

pub returns-then-draft : goal.returns-then-draft
returns-then-draft c =
    behind_header c.args.also c.args.spec.now c.args.lines.now c.read_header.new.lines c.in_ok-threads.threads _ c.new-draft.ensures c.in_ok-threads.ensures.ok
    ∙ whole c.args.also c.args.spec.now (past_end_of c.args.lines.now.text) _ (content_from c.read_header.new.lines) c.in_default.field-0
    c.read_lines.new.state (content_from c.read_lines.new.lines) c.in_default.ensures.lines c.if-draft.true

pub returns-else-draft : goal.returns-else-draft
returns-else-draft c =
    let past_end = c.past_end.ensures ∙ ap past_end_of (c.in_default.ensures.text ∙ c.in_ok-threads.ensures.text) in
    behind_header c.args.also c.args.spec.now c.args.lines.now c.read_header.new.lines c.in_ok-threads.threads _ c.new-draft.ensures c.in_ok-threads.ensures.ok
    ∙ unended c.args.also c.args.spec.now (past_end_of c.args.lines.now.text) _ (content_from c.read_header.new.lines) c.in_default.field-0
    c.read_lines.new.state (content_from c.read_lines.new.lines) c.in_default.ensures.lines c.if-draft.false
    ∙ ap (broken_at S8) (sym past_end)
