use Rattle.rc_rel.specs.FurtherLaws as laws
use Rattle.rc_rel.proofs.laws.histories_stay.Goals as goal

pub returns : goal.returns
returns c = laws.histories_stay
