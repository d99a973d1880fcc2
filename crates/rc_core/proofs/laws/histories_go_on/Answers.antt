use Rattle.rc_core.specs.ResumedLaws as laws
use Rattle.rc_core.proofs.laws.histories_go_on.Goals as goal

pub returns-clause-good : goal.returns-clause-good
returns-clause-good c = laws.resumed_good

pub returns-clause-start : goal.returns-clause-start
returns-clause-start c = laws.starts_are_resumed

pub returns-clause-sound : goal.returns-clause-sound
returns-clause-sound c = laws.resumed_runs

pub returns-clause-begins : goal.returns-clause-begins
returns-clause-begins c = laws.events_add

pub returns-clause-more : goal.returns-clause-more
returns-clause-more c = laws.goes_on_with_more
