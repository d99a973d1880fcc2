use Rattle.rc_rel.specs.HistoryLaws as laws
use Rattle.rc_rel.proofs.laws.states_are_relations.Goals as goal

pub returns : goal.returns
returns c = laws.states_are_relations
