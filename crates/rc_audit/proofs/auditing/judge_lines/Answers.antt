use Rattle.std.proofs.Common.{◌++◌, ◌∷◌, [], sym, ap, subst, ◌∙◌}
use Rattle.rc_audit.proofs.Imports.{IfOk, bytes_of_content, content_from, content_of, past_end_of, IsVerdict, HasPassed, judged_form, judged_plans, judged_work}
use Rattle.rc_audit.proofs.JudgeLemmas.{bad_verdict, bytes_more, few_verdict, judged_bad, whole_more}
use Rattle.rc_audit.proofs.auditing.judge_lines.Goals as goal

pub loop-line-preserved : goal.loop-line-preserved
loop-line-preserved c =
    let all = content_from c.args.lines.now in
    let now = content_from c.loop-line.lines in
    let p = c.loop-line.invariant.passed in
    let line = content_of c.in-Some.line in
    record {
      form_is = c.in-Ok.ensures.same.form_is ∙ c.loop-line.invariant.form_is;
      compiled_is = c.in-Ok.ensures.same.compiled_is ∙ c.loop-line.invariant.compiled_is;
      work_is = c.in-Ok.ensures.same.work_is ∙ c.loop-line.invariant.work_is;
      text = c.in-Some.ensures.text ∙ c.loop-line.invariant.text;
      passed = (
        p.0 ++ line ∷ [],
        whole_more all p.0 now p.1 line (content_from c.next_line.new.self) c.in-Some.ensures.line,
        subst (HasPassed c.judge_line.new.self) (bytes_more all p.0 now p.1 line) (c.in-Ok.ensures.judged (bytes_of_content p.0) p.2),
      );
    }

pub returns-in-Err : goal.returns-in-Err
returns-in-Err c =
    let p = c.loop-line.invariant.passed in
    let line = content_of c.in-Some.line in
    judged_bad (judged_form c.loop-line.judge) (judged_plans c.loop-line.judge) (judged_work c.loop-line.judge) (bytes_of_content p.0) c.in-Some.line.bytes.now
    (HasPassed c.judge_line.new.self (bytes_of_content p.0 ++ c.in-Some.line.bytes.now ∷ []))
    (IsVerdict (judged_form c.args.judge.now) (judged_plans c.args.judge.now) (judged_work c.args.judge.now) (past_end_of c.args.lines.now.text) (content_from c.args.lines.now))
    c.in-Some.line.number c.in-Err.fault c.said.result c.said.ensures
    (bad_verdict (content_from c.args.lines.now) p.0 (content_from c.loop-line.lines) p.1 c.loop-line.judge (judged_form c.args.judge.now) (judged_plans c.args.judge.now) (judged_work c.args.judge.now)
    (past_end_of c.args.lines.now.text) c.loop-line.invariant.form_is c.loop-line.invariant.compiled_is c.loop-line.invariant.work_is p.2 line (content_from c.next_line.new.self) c.in-Some.ensures.line)
    (c.in-Err.ensures.judged (bytes_of_content p.0) p.2)

pub returns-in-None : goal.returns-in-None
returns-in-None c =
    let p = c.loop-line.invariant.passed in
    subst (λ r. IfOk r (IsVerdict (judged_form c.args.judge.now) (judged_plans c.args.judge.now) (judged_work c.args.judge.now) (past_end_of c.args.lines.now.text) (content_from c.args.lines.now)))
    (sym c.said-in-None.ensures)
    (few_verdict (content_from c.args.lines.now) p.0 (content_from c.loop-line.lines) p.1 c.loop-line.judge (judged_form c.args.judge.now) (judged_plans c.args.judge.now) (judged_work c.args.judge.now)
    (past_end_of c.args.lines.now.text) c.loop-line.invariant.form_is c.loop-line.invariant.compiled_is c.loop-line.invariant.work_is p.2 c.past_end.result c.in_default.ensures.none
    (c.in-None.ensures (bytes_of_content p.0) p.2)
    (sym (c.past_end.ensures ∙ ap past_end_of (c.in_default.ensures.text ∙ c.loop-line.invariant.text))))
