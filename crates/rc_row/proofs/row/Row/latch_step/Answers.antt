use Rattle.std.proofs.Common.{◌∙◌}
use Rattle.rc_row.proofs.SeatStepLemmas.{at_latch, latches_at, stripes_seen}
use Rattle.rc_row.proofs.row.Row.latch_step.Goals as goal

pub compare_exchange-requires : goal.compare_exchange-requires
compare_exchange-requires g c =
    latches_at c.self.inside c.args.self.now c.self.view_is c.self.invariant c.args.seat.now.id c.args.seat.now.me c.args.seat.now.table_id c.requires.row
    c.args.stripe c.latch_word-word.result c.args.mark g.C.Knows.key c.requires.stripe
    (at_latch c.stripe_count.result _ c.args.stripe c.latch_word-word.result c.latch_word-word.ensures (c.stripe_count.ensures.count ∙ stripes_seen c.self.inside c.args.self.now c.self.view_is))
    c.requires.key c.requires.pass c.requires.held c.requires.content c.requires.mark
