use Rattle.rc_check.proofs.Imports.{map, take, EachHolds, op_at, IsKeptInPlan, check_at, plan_rules}
use Rattle.rc_check.proofs.check.check_statement.Given as goal

abbrev pub invariant-loop-rule : goal.invariant-loop-rule
invariant-loop-rule l = EachHolds (IsKeptInPlan l.accepted (op_at l.accepted l.number) l.plan) (map (check_at l.at) (take l.rule-index plan_rules))
