use Rattle.rc_journal.specs.ByPassLaws as laws
use Rattle.rc_journal.proofs.laws.own_parts_are_of_history.Goals as goal

pub returns : goal.returns
returns c = laws.own_parts
