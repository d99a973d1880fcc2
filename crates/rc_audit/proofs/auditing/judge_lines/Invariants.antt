use Rattle.std.proofs.Common.{◌≡◌, ◌++◌, List, length}
use Rattle.rc_audit.proofs.Imports.{ContentLine, bytes_of_content, content_from, HasPassed, judged_form, judged_plans, judged_work}
use Rattle.rc_audit.proofs.auditing.judge_lines.Given as goal

abbrev pub invariant-loop-line : goal.invariant-loop-line
invariant-loop-line l = record {
  form_is : judged_form l.judge ≡ judged_form l.fn.judge;
  compiled_is : judged_plans l.judge ≡ judged_plans l.fn.judge;
  work_is : judged_work l.judge ≡ judged_work l.fn.judge;
  text : l.lines.text ≡ l.fn.lines.text;
  passed : (front : List ContentLine) × (content_from l.fn.lines ≡ front ++ content_from l.lines) × HasPassed l.judge (bytes_of_content front);
}

abbrev pub decreases-loop-line : goal.decreases-loop-line
decreases-loop-line l = length (content_from l.lines)
