use Rattle.rc_row.proofs.SeatStepLemmas.{locks_at}
use Rattle.rc_row.proofs.row.Row.lock_step.Goals as goal

pub compare_exchange-requires : goal.compare_exchange-requires
compare_exchange-requires g c =
    locks_at c.self.inside c.args.self.now c.self.view_is c.self.invariant c.args.seat.now.id c.args.seat.now.me c.args.seat.now.table_id c.requires.row
    c.args.stripe c.stripe_word.result c.args.mark g.C.Knows.key c.requires.stripe c.stripe_word.ensures c.requires.key c.requires.pass c.requires.high c.requires.mark
