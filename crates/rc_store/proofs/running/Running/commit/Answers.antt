use Rattle.rc_store.proofs.Imports.{subst, RunningSeen, call_made, free_made, IsCallFinished, one_step}
use Rattle.rc_store.proofs.running.Running.commit.Goals as goal

pub returns-clause-made : goal.returns-clause-made
returns-clause-made g c =
    call_made c.args.store.now c.args.self.call c.args.self.begun c.args.self.pass c.commit_prepared-receipt.new.pass
    c.args.self.reply c.requires.prepared c.requires.exact
    c.commit_prepared-receipt.result
    (subst (λ (r : RunningSeen). IsCallFinished c.args.store.now.row r.call r.pass c.commit_prepared-receipt.new.pass
    r.reply c.commit_prepared-receipt.result) c.self.view_is
    (c.commit_prepared-receipt.ensures.finished c.self.inside.step.value c.self.invariant))

pub returns-clause-free : goal.returns-clause-free
returns-clause-free g c =
    free_made c.args.store.now (one_step c.args.self.call c.args.self.reply) c.args.self.begun c.commit_prepared-receipt.new.pass
    c.commit_prepared-receipt.result.place c.commit_prepared-receipt.result.nth c.requires.left c.commit_prepared-receipt.ensures.pass
    (returns-clause-made g c).entry
