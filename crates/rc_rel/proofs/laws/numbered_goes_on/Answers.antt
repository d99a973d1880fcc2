use Rattle.rc_rel.specs.OwnLaws as laws
use Rattle.rc_rel.proofs.laws.numbered_goes_on.Goals as goal

pub returns : goal.returns
returns c = laws.numbered_more
