use Rattle.std.proofs.Common.{◌≡◌, ◌≤◌, length}
use Rattle.rc_store.specs.Resumed.{counted_passes}
use Rattle.rc_store.proofs.resume.with_counts.Given as goal

abbrev pub invariant-loop-number : goal.invariant-loop-number
invariant-loop-number l = record {
  ended : l.ended.items ≡ counted_passes l.made l.number;
  count : length l.ended.items ≡ l.number;
  room : l.passes ≤ l.ended.cap;
}
