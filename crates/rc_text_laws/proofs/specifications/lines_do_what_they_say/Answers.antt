use Rattle.rc_text_laws.specs.LineFormLaws.{told_by_form, some_line, line_anew}
use Rattle.rc_text_laws.proofs.specifications.lines_do_what_they_say.Goals as goal

pub returns-clause-told : goal.returns-clause-told
returns-clause-told c = told_by_form

pub returns-clause-again : goal.returns-clause-again
returns-clause-again c = line_anew

pub returns-clause-some_line : goal.returns-clause-some_line
returns-clause-some_line c = some_line
