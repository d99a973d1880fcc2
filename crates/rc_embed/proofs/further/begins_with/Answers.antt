use Rattle.std.proofs.Common.{rules, arith}
use Rattle.rc_embed.proofs.FurtherLemmas.{begins}
use Rattle.rc_embed.proofs.further.begins_with.Goals as goal

pub returns : goal.returns
returns g c = (
  λ _. begins c.loop-at.at c.args.items.now c.args.first.now (let over = c.loop-at-test.false in omega arith) c.loop-at.invariant,
  λ _. search rules,
)
