use Rattle.std.proofs.Common.{◌≡◌, ◌≤◌, false, drop, take, ℕ}
use Rattle.rc_plan.proofs.Imports.{list_any, is_lock}
use Rattle.rc_plan.proofs.access.late_statements.Given as goal

abbrev pub invariant-loop-at : goal.invariant-loop-at
invariant-loop-at l = record {
  within : l.late ≤ l.at;
  none : list_any is_lock (drop l.late (take l.at l.statements)) ≡ false;
  least : (n : ℕ) → list_any is_lock (drop n (take l.at l.statements)) ≡ false → l.late ≤ n;
}
