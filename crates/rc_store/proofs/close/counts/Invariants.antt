use Rattle.std.proofs.Common.{◌≡◌, ◌≤◌, length, take}
use Rattle.rc_store.specs.Closed.{made_by}
use Rattle.rc_store.proofs.close.counts.Given as goal

abbrev pub invariant-loop-pass : goal.invariant-loop-pass
invariant-loop-pass l = record {
  made : l.made.items ≡ made_by (take l.pass-index l.passes);
  room : length l.passes ≤ l.made.cap;
}
