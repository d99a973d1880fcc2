use Rattle.std.proofs.Common.{◌≡◌, ℕ, ◌<◌, ◌≤◌, length}
use Rattle.rc_handplan.proofs.Imports.{IsPlanOf, plan_at, plan_for, IsChosenBy}
use Rattle.rc_handplan.proofs.compiling.chosen_plans.Given as goal

-- the operations so far have their plans, and what is written for the others is still there
abbrev pub invariant-loop-op : goal.invariant-loop-op
invariant-loop-op l = record {
  count : length l.plans.items ≡ l.op;
  chosen :
      (n : ℕ) → n < l.op → IsChosenBy l.accepted n (plan_for l.fn.hands.items n) (plan_at l.plans.items n);
  accepted : (n : ℕ) → n < l.op → IsPlanOf l.accepted n (plan_at l.plans.items n);
  left : (n : ℕ) → l.op ≤ n → plan_for l.hands.items n ≡ plan_for l.fn.hands.items n;
}
