use Rattle.rc_handplan.specs.FirstBrokenLaws.{nothing_is_read}
use Rattle.rc_handplan.proofs.laws.without_plans_nothing_is_read.Goals as goal

pub returns : goal.returns
returns c = nothing_is_read
