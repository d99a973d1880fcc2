use Rattle.rc_row.proofs.SeatStepLemmas.{learns_at}
use Rattle.rc_row.proofs.row.Row.learn_step.Goals as goal

pub join_seat-requires : goal.join_seat-requires
join_seat-requires c =
    learns_at c.self.inside c.args.self.now c.self.view_is c.self.invariant c.args.seat.now.id c.args.seat.now.me c.args.seat.now.table_id c.requires.row.0
    c.args.note.id c.args.note.me c.args.note.table_id c.requires.row.1 c.requires.note.1 c.requires.pass c.requires.note.0
