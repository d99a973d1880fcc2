use Rattle.rc_query.specs.PlannedLaws.{accepted_over_good_routes, accepted_if_planned}
use Rattle.rc_query.proofs.laws.planned_plans_are_accepted.Goals as goal

pub returns-clause-good_routes : goal.returns-clause-good_routes
returns-clause-good_routes c = accepted_over_good_routes

pub returns-clause-chosen_routes : goal.returns-clause-chosen_routes
returns-clause-chosen_routes c = accepted_if_planned
