use Rattle.std.proofs.Common.{◌∙◌}
use Rattle.rc_row.proofs.SeatStepLemmas.{at_latch, stripes_seen, unlatches_at}
use Rattle.rc_row.proofs.row.Row.unlatch_step.Goals as goal

pub swap-requires : goal.swap-requires
swap-requires c =
    unlatches_at c.self.inside c.args.self.now c.self.view_is c.self.invariant c.args.seat.now.id c.args.seat.now.me c.args.seat.now.table_id c.requires.row
    c.args.stripe c.latch_word-word.result c.requires.stripe
    (at_latch c.stripe_count.result _ c.args.stripe c.latch_word-word.result c.latch_word-word.ensures (c.stripe_count.ensures.count ∙ stripes_seen c.self.inside c.args.self.now c.self.view_is))
    c.requires.latch c.requires.slot
