use Rattle.std.proofs.Common.{◌≡◌}
use Rattle.rc_row.specs.Own.{turned_times}
use Rattle.rc_row.proofs.hands.turn_by.Given as goal

abbrev pub invariant-loop : goal.invariant-loop
invariant-loop l = (l.seat.table_id ≡ l.fn.seat.table_id) × (l.seat.id ≡ l.fn.seat.id) × (l.seat.me ≡ (l.fn.seat.me.0, turned_times l.counter l.fn.seat.me.1))
