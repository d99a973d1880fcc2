use Rattle.std.proofs.Common.{sym}
use Rattle.rc_handplan.proofs.compiling.chosen_plan.Goals as goal

pub returns-in-Some-clause-accepted : goal.returns-in-Some-clause-accepted
returns-in-Some-clause-accepted c = c.requires.written c.in-Some.plan (sym c.in-Some.ensures.plan)
