use Rattle.rc_text.specs.LinesLaws.{concat-lines_of, each-lines_of, lines_of-ended, lines_of-last}
use Rattle.rc_text.proofs.laws.lines_are_the_text.Goals as goal

pub returns-clause-joined : goal.returns-clause-joined
returns-clause-joined c = concat-lines_of

pub returns-clause-each : goal.returns-clause-each
returns-clause-each c = each-lines_of

pub returns-clause-ended : goal.returns-clause-ended
returns-clause-ended c = lines_of-ended

pub returns-clause-last : goal.returns-clause-last
returns-clause-last c = lines_of-last
