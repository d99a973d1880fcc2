use Rattle.rc_audit.specs.PlanLinesLaws as laws
use Rattle.rc_audit.proofs.laws.plan_lines_are_written.Goals as goal

pub returns : goal.returns
returns c = laws.plan_lines_are_written
