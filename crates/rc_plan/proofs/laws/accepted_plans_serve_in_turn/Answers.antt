use Rattle.rc_plan.specs.ServeLaws.{plans_in_turn_law}
use Rattle.rc_plan.proofs.laws.accepted_plans_serve_in_turn.Goals as goal

pub returns : goal.returns
returns c = plans_in_turn_law
