use Rattle.rc_handplan.specs.FirstBrokenLaws.{first_broken_plan_line}
use Rattle.rc_handplan.proofs.laws.first_broken_plan_line.Goals as goal

pub returns : goal.returns
returns c = first_broken_plan_line
