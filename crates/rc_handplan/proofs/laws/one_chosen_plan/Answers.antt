use Rattle.rc_handplan.specs.ChosenLaws.{one_chosen_plan}
use Rattle.rc_handplan.proofs.laws.one_chosen_plan.Goals as goal

pub returns : goal.returns
returns c = one_chosen_plan
