use Rattle.rc_row.proofs.SeatStepLemmas.{looks_at}
use Rattle.rc_row.proofs.row.Row.look_step.Goals as goal

pub load-requires : goal.load-requires
load-requires g c =
    looks_at c.self.inside c.args.self.now c.self.view_is c.self.invariant c.args.seat.now.id c.args.seat.now.me c.args.seat.now.table_id c.requires.row
    g.C.Knows.key c.requires.key c.requires.pass
