use Rattle.rc_store.proofs.Imports.{subst, RunningGroupSeen, calls_of, replies_of, running_group_made, free_made, IsGroupFinished, with_replies}
use Rattle.rc_store.proofs.running_group.RunningGroup.commit.Goals as goal

pub returns-clause-made : goal.returns-clause-made
returns-clause-made g c =
    running_group_made c.args.store.now c.args.self.begun c.args.self.pass c.commit_group-receipt.new.pass c.args.self.steps c.requires c.commit_group-receipt.result
    (subst (λ (r : RunningGroupSeen). IsGroupFinished c.args.store.now.row (calls_of r.steps) (replies_of r.steps) r.pass c.commit_group-receipt.new.pass c.commit_group-receipt.result)
    c.self.view_is c.commit_group-receipt.ensures.finished)

pub returns-clause-free : goal.returns-clause-free
returns-clause-free g c =
    free_made c.args.store.now (with_replies (calls_of c.args.self.steps) (replies_of c.args.self.steps)) c.args.self.begun c.commit_group-receipt.new.pass
    c.commit_group-receipt.result.place c.commit_group-receipt.result.nth c.requires.left c.commit_group-receipt.ensures.pass
    (returns-clause-made g c).entry
