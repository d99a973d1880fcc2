use Rattle.std.proofs.Common.{◌≡◌, length}
use Rattle.rc_row.specs.Rooms.{AreRooms}
use Rattle.rc_row.proofs.build.rooms.Given as goal

abbrev pub invariant-loop : goal.invariant-loop
invariant-loop l = (length l.rooms.items ≡ l.counter) × AreRooms l.stripes l.rooms.items
