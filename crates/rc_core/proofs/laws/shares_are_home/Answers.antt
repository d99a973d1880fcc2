use Rattle.rc_core.specs.AgreeLaws as laws
use Rattle.rc_core.proofs.laws.shares_are_home.Goals as goal

pub returns : goal.returns
returns c = laws.shares_law
