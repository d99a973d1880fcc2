use Rattle.rc_check.proofs.RuleLemmas.{old_told}
use Rattle.rc_check.proofs.found.tells_old.Goals as goal

pub returns-in-Update : goal.returns-in-Update
returns-in-Update c = old_told c.args.op.now c.args.op.now.kind c.pattern_of.result c.args.visited c.within.result c.in-Update.is c.pattern_of.ensures c.within.ensures.found
