use Rattle.std.proofs.Common.{rules}
use Rattle.rc_text.specs.WordsLaws.{found_none, found_some, found_fault, found_shorter}
use Rattle.rc_text.proofs.words.Words.next_word.Goals as goal

pub returns-in-Ok-None-clause-list : goal.returns-in-Ok-None-clause-list
returns-in-Ok-None-clause-list c = search (rules, found_none)

pub returns-in-Ok-Some-clause-list : goal.returns-in-Ok-Some-clause-list
returns-in-Ok-Some-clause-list c = search (rules, found_some)

pub returns-in-Ok-Some-clause-shorter : goal.returns-in-Ok-Some-clause-shorter
returns-in-Ok-Some-clause-shorter c = search (rules, found_shorter)

pub returns-in-Err-clause-list : goal.returns-in-Err-clause-list
returns-in-Err-clause-list c = search (rules, found_fault)
