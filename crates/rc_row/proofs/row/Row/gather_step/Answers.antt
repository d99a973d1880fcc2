use Rattle.rc_row.proofs.SeatStepLemmas.{gathers_at}
use Rattle.rc_row.proofs.row.Row.gather_step.Goals as goal

pub join_seat-requires : goal.join_seat-requires
join_seat-requires c =
    gathers_at c.self.inside c.args.self.now c.self.view_is c.self.invariant c.args.seat.now.id c.args.seat.now.me c.args.seat.now.table_id c.requires.row.0
    c.args.other.id c.args.other.me c.args.other.table_id c.requires.row.1 c.requires.pass.1 c.requires.all c.requires.pass.0 c.requires.order
