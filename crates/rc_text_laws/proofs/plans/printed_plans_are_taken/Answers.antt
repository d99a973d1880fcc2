use Rattle.rc_text_laws.specs.PlansAloneLaws.{printed_plans_are_chosen, printed_plans_are_taken}
use Rattle.rc_text_laws.proofs.plans.printed_plans_are_taken.Goals as goal

pub returns-clause-taken : goal.returns-clause-taken
returns-clause-taken c = printed_plans_are_taken

pub returns-clause-chosen : goal.returns-clause-chosen
returns-clause-chosen c = printed_plans_are_chosen
