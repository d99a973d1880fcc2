use Rattle.rc_handplan.specs.AloneLaws.{no_text_no_plans}
use Rattle.rc_handplan.proofs.laws.without_a_text_no_plan_is_read.Goals as goal

pub returns : goal.returns
returns c = no_text_no_plans
