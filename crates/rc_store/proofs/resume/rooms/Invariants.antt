use Rattle.std.proofs.Common.{◌≤◌}
use Rattle.rc_store.specs.Resumed.{HaveRoomFor}
use Rattle.rc_store.proofs.resume.rooms.Given as goal

abbrev pub invariant-loop-number : goal.invariant-loop-number
invariant-loop-number l = record {
  parts : HaveRoomFor l.made l.number l.parts.items;
  room : l.passes ≤ l.parts.cap;
}
