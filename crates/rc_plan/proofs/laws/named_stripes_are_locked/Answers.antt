use Rattle.rc_plan.specs.NamedStripesLaws.{named_law}
use Rattle.rc_plan.proofs.laws.named_stripes_are_locked.Goals as goal

pub returns : goal.returns
returns c = named_law
