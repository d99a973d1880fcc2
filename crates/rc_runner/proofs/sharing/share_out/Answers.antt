use Rattle.std.proofs.Common.{ap, length-set, ◌∙◌}
use Rattle.rc_runner.proofs.Imports.{turns_in, shared_more, turns_in-more}
use Rattle.rc_runner.proofs.sharing.share_out.Goals as goal

pub loop-turn-preserved : goal.loop-turn-preserved
loop-turn-preserved c = record {
  count = length-set c.loop-turn.shares.items c.turn-item.result.thread c.push.new.self ∙ c.loop-turn.invariant.count;
  shared =
      shared_more c.args.round.now c.loop-turn.turn-index c.args.threads c.turn-item.result c.loop-turn.shares.items c.index_mut.result.now
      c.push.new.self c.requires c.loop-turn.invariant.count c.loop-turn-test.true c.turn-item.is c.index_mut.ensures.value
      (ap turns_in c.in_ok-push.ensures.items ∙ turns_in-more c.index_mut.result.now.items _) c.loop-turn.invariant.shared;
}
