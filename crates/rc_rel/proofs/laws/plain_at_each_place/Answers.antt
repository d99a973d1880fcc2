use Rattle.rc_rel.specs.PlaceLaws as laws
use Rattle.rc_rel.proofs.laws.plain_at_each_place.Goals as goal

pub returns : goal.returns
returns c = laws.plain_at_each_place
