use Rattle.rc_text_laws.specs.PlansLaws.{all_plans_are_read_back, plans_are_read_back, plans_are_read_again, plan_lines_are_printed}
use Rattle.rc_text_laws.proofs.plans.printed_plans_are_read_back.Goals as goal

pub returns-clause-all : goal.returns-clause-all
returns-clause-all c = all_plans_are_read_back

pub returns-clause-one : goal.returns-clause-one
returns-clause-one c = plans_are_read_back

pub returns-clause-printed : goal.returns-clause-printed
returns-clause-printed c = plan_lines_are_printed

pub returns-clause-again : goal.returns-clause-again
returns-clause-again c = plans_are_read_again
