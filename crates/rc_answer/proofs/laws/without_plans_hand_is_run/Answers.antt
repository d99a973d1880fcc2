use Rattle.rc_answer.specs.HandLaws as laws
use Rattle.rc_answer.proofs.laws.without_plans_hand_is_run.Goals as goal

pub returns : goal.returns
returns c = laws.without_plans_hand_is_run
