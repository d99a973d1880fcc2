use Rattle.rc_row.proofs.SeatStepLemmas.{leaves_at}
use Rattle.rc_row.proofs.row.Row.leave_step.Goals as goal

pub fetch_sub-requires : goal.fetch_sub-requires
fetch_sub-requires c =
    leaves_at c.self.inside c.args.self.now c.self.view_is c.self.invariant c.args.seat.now.id c.args.seat.now.me c.args.seat.now.table_id c.requires.row
    c.args.stripe c.stripe_word.result c.requires.pass.0 c.requires.stripe c.stripe_word.ensures c.requires.pass.1 c.requires.pass.2 c.requires.held

pub returns-clause-told : goal.returns-clause-told
returns-clause-told c = c.fetch_sub.ensures.2 c.args.stripe c.stripe_word.ensures
