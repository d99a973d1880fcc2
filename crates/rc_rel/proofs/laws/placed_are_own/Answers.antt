use Rattle.rc_rel.specs.OwnLaws as laws
use Rattle.rc_rel.proofs.laws.placed_are_own.Goals as goal

pub returns : goal.returns
returns c = laws.placed_own
