use Rattle.rc_text_laws.specs.StorePlansLaws.{printed_plans_are_not_refused, printed_plans_are_the_stores}
use Rattle.rc_text_laws.proofs.plans.opened_plans_are_given_back.Goals as goal

pub returns-clause-taken : goal.returns-clause-taken
returns-clause-taken c = printed_plans_are_not_refused

pub returns-clause-same : goal.returns-clause-same
returns-clause-same c = printed_plans_are_the_stores
