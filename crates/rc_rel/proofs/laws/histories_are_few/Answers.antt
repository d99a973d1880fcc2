use Rattle.rc_rel.specs.OwnLaws as laws
use Rattle.rc_rel.proofs.laws.histories_are_few.Goals as goal

pub returns-clause-own : goal.returns-clause-own
returns-clause-own c = laws.own_few

pub returns-clause-replay : goal.returns-clause-replay
returns-clause-replay c = laws.replay_few
