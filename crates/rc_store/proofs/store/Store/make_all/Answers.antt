use Rattle.rc_store.specs.StepLaws.{group_made}
use Rattle.rc_store.proofs.store.Store.make_all.Goals as goal

pub returns-clause-made : goal.returns-clause-made
returns-clause-made g c =
    let ready = c.in_ok-replies.ensures.ok in (
      c.in_ok-replies.replies.items,
      group_made c.args.self.now c.args.calls.now c.in_ok-replies.replies.items c.args.pass.now c.prepare_all.new.pass c.finish_all.new.pass
          ready.count ready.prepared ready.exact c.in_ok-finish_all.field-0 c.in_ok-finish_all.ensures.ok,
    )
