use Rattle.rc_handplan.specs.ChosenLaws.{planned_plans_may_be_written}
use Rattle.rc_handplan.proofs.laws.planned_plans_may_be_written.Goals as goal

pub returns : goal.returns
returns c = planned_plans_may_be_written
