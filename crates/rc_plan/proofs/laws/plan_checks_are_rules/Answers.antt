use Rattle.rc_plan.specs.PlanRulesLaws.{checks_law, refused_law, one_first_law}
use Rattle.rc_plan.proofs.laws.plan_checks_are_rules.Goals as goal

pub returns-clause-checks : goal.returns-clause-checks
returns-clause-checks c = checks_law

pub returns-clause-refuses : goal.returns-clause-refuses
returns-clause-refuses c = refused_law

pub returns-clause-one : goal.returns-clause-one
returns-clause-one c = one_first_law
