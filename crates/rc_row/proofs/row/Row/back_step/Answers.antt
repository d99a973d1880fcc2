use Rattle.rc_row.proofs.SeatStepLemmas.{backs_at}
use Rattle.rc_row.proofs.row.Row.back_step.Goals as goal

pub fetch_sub-requires : goal.fetch_sub-requires
fetch_sub-requires c =
    backs_at c.self.inside c.args.self.now c.self.view_is c.self.invariant c.args.seat.now.id c.args.seat.now.me c.args.seat.now.table_id c.requires.row
    c.args.stripe c.stripe_word.result c.requires.stripe c.stripe_word.ensures c.requires.pass c.requires.turning
