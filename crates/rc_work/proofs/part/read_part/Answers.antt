use Rattle.std.proofs.Common.{refl, sym, ap, subst, ◌∙◌}
use Rattle.rc_work.proofs.Imports.{content_from, past_end_of, Refuses, refusal_at, S8, broken_at}
use Rattle.rc_work.proofs.PartLemmas.{behind_header, ended, rest_behind, unended, refused}
use Rattle.rc_work.proofs.part.read_part.Goals as goal

pub returns-in-Ok-Some : goal.returns-in-Ok-Some
returns-in-Ok-Some c = (
  _,
  behind_header c.args.also c.args.spec.now c.args.lines.now c.read_header.new.lines c.in_ok-threads.threads _ c.new-draft.ensures c.in_ok-threads.ensures.ok
      ∙ ended c.args.also c.args.spec.now (past_end_of c.args.lines.now.text) _ (content_from c.read_header.new.lines) c.in-Ok-Some.field-0
      c.in-Ok-Some.last (content_from c.read_lines.new.lines) c.read_lines.new.state c.in-Ok-Some.field-0-is c.in-Ok-Some.ensures.lines,
  refl,
  rest_behind c.read_header.new.lines c.read_lines.new.lines c.in-Ok-Some.field-0 c.in-Ok-Some.last _ c.args.lines.now.text c.args.version c.in_ok-threads.ensures.text
      c.in-Ok-Some.field-0-is c.in-Ok-Some.ensures.behind c.in-Ok-Some.ensures.start refl,
)

pub returns-in-Ok-None : goal.returns-in-Ok-None
returns-in-Ok-None c =
    let past_end = c.past_end.ensures ∙ ap past_end_of (c.in-Ok-None.ensures.text ∙ c.in_ok-threads.ensures.text) in
    behind_header c.args.also c.args.spec.now c.args.lines.now c.read_header.new.lines c.in_ok-threads.threads _ c.new-draft.ensures c.in_ok-threads.ensures.ok
    ∙ unended c.args.also c.args.spec.now (past_end_of c.args.lines.now.text) _ (content_from c.read_header.new.lines) c.in-Ok-None.field-0
    (content_from c.read_lines.new.lines) c.read_lines.new.state c.in-Ok-None.field-0-is c.in-Ok-None.ensures.lines
    ∙ ap (broken_at S8) (sym past_end)

pub returns-in-Err : goal.returns-in-Err
returns-in-Err c =
    rw c.at.ensures
    (subst (Refuses (refusal_at c.in-Err.unread.fault c.in-Err.unread.line))
    (sym (behind_header c.args.also c.args.spec.now c.args.lines.now c.read_header.new.lines c.in_ok-threads.threads _ c.new-draft.ensures c.in_ok-threads.ensures.ok))
    (refused c.args.also c.args.spec.now (past_end_of c.args.lines.now.text) _ (content_from c.read_header.new.lines) c.in-Err.unread
    c.in-Err.ensures.lines))
