use Rattle.rc_check.proofs.RuleLemmas.{after_all_locked}
use Rattle.rc_check.proofs.cover.keeps_k2.Goals as goal

pub returns-in-Lock : goal.returns-in-Lock
returns-in-Lock c = λ p e. after_all_locked p c.args.before.now c.args.statement.now c.in-Lock.class c.in-Lock.which c.in-Lock.mode e c.in-Lock.is
