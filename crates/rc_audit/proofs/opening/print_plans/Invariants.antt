use Rattle.std.proofs.Common.{◌≡◌}
use Rattle.rc_audit.proofs.OpeningLemmas.{first_plan_lines}
use Rattle.rc_audit.proofs.opening.print_plans.Given as goal

abbrev pub invariant-loop-op : goal.invariant-loop-op
invariant-loop-op l = l.lines ≡ first_plan_lines l.compiled l.op
