use Rattle.rc_plan.specs.LockOrderLaws.{rising_law, early_law}
use Rattle.rc_plan.proofs.laws.accepted_plans_lock_in_order.Goals as goal

pub returns-clause-rising : goal.returns-clause-rising
returns-clause-rising c = rising_law

pub returns-clause-early : goal.returns-clause-early
returns-clause-early c = early_law
