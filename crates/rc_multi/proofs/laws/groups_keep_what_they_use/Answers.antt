use Rattle.rc_multi.specs.KeptLaws.{groups_keep_what_they_use, one_call_keeps_what_it_took}
use Rattle.rc_multi.proofs.laws.groups_keep_what_they_use.Goals as goal

pub returns-clause-several : goal.returns-clause-several
returns-clause-several c = groups_keep_what_they_use

pub returns-clause-one : goal.returns-clause-one
returns-clause-one c = one_call_keeps_what_it_took
