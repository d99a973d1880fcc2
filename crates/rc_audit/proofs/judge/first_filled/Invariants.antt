use Rattle.std.proofs.Common.{◌≡◌, ℕ, ◌≤◌, ◌<◌, [], get_or, length}
use Rattle.rc_audit.proofs.judge.first_filled.Given as goal

abbrev pub invariant-loop-number : goal.invariant-loop-number
invariant-loop-number l = record {
  later : l.from ≤ l.number;
  within : l.number ≤ length l.rounds;
  empty : (n : ℕ) → l.from ≤ n → n < l.number → length (get_or l.rounds n []) ≡ 0;
}
