use Rattle.rc_rel.specs.SharesLaws as laws
use Rattle.rc_rel.proofs.laws.shares_add_up.Goals as goal

pub returns : goal.returns
returns c = laws.shares_add_up
