use Rattle.rc_query.specs.PlannedLaws.{has_planned, one_planned}
use Rattle.rc_query.proofs.laws.one_planned_plan.Goals as goal

pub returns-clause-some : goal.returns-clause-some
returns-clause-some c = has_planned

pub returns-clause-one : goal.returns-clause-one
returns-clause-one c = one_planned
