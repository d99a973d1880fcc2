use Rattle.rc_row.proofs.SeatStepLemmas.{enters_at}
use Rattle.rc_row.proofs.row.Row.enter_step.Goals as goal

pub fetch_add-requires : goal.fetch_add-requires
fetch_add-requires g c =
    enters_at c.self.inside c.args.self.now c.self.view_is c.self.invariant c.args.seat.now.id c.args.seat.now.me c.args.seat.now.table_id c.requires.row
    c.args.stripe c.stripe_word.result g.C.Knows.key c.requires.stripe c.stripe_word.ensures c.requires.key c.requires.pass c.requires.high
