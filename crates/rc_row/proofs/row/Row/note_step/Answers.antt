use Rattle.rc_row.proofs.SeatStepLemmas.{notes_at}
use Rattle.rc_row.proofs.row.Row.note_step.Goals as goal

pub split_seat-requires : goal.split_seat-requires
split_seat-requires c =
    notes_at c.self.inside c.args.self.now c.self.view_is c.self.invariant c.args.seat.now.id c.args.seat.now.me c.args.seat.now.table_id c.requires.row
    c.requires.pass
