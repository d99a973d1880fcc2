use Rattle.std.proofs.Common.{◌≡◌, ◌≤◌, length}
use Rattle.rc_audit.specs.Cursors.{turns_from}
use Rattle.rc_audit.proofs.cursors.first_turn.Given as goal

abbrev pub invariant-loop-at : goal.invariant-loop-at
invariant-loop-at l = record {
  turns : turns_from l.round l.thread l.from ≡ turns_from l.round l.thread l.at;
  begun : l.from ≤ l.at;
  within : l.at ≤ length l.round;
}
