use Rattle.rc_plan.specs.ServeLaws.{plans_law}
use Rattle.rc_plan.proofs.laws.accepted_plans_serve.Goals as goal

pub returns : goal.returns
returns c = plans_law
