use Rattle.rc_cache.specs.ApartLaws as apart
use Rattle.rc_cache.proofs.laws.plans_are_apart.Goals as goal

pub returns : goal.returns
returns c = apart.plans_are_apart
