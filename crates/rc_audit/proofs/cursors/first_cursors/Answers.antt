use Rattle.rc_audit.proofs.Imports.{refl, begun_more, begun_none}
use Rattle.rc_audit.proofs.cursors.first_cursors.Goals as goal

pub loop-thread-init : goal.loop-thread-init
loop-thread-init c = begun_none c.args.round.now 0 c.new-cursors.result.items refl c.new-cursors.ensures.items

pub loop-thread-preserved : goal.loop-thread-preserved
loop-thread-preserved c =
    begun_more c.args.round.now c.loop-thread.thread c.first_turn.result c.loop-thread.cursors.items _ c.loop-thread.invariant
    c.in_ok-push.ensures.items c.first_turn.ensures.turn c.first_turn.ensures.turns
