use Rattle.rc_core.specs.AgreeLaws as laws
use Rattle.rc_core.proofs.laws.own_are_of_history.Goals as goal

pub returns : goal.returns
returns c = laws.own_law
