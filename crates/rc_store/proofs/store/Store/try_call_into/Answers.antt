use Rattle.rc_store.proofs.Imports.{call_made, reply_given, receipt_at}
use Rattle.rc_store.proofs.store.Store.try_call_into.Goals as goal

pub returns-clause-made : goal.returns-clause-made
returns-clause-made g c =
    let reply = c.prepare.new.reply in
    call_made c.args.self.now c.args.call.now c.args.pass.now c.prepare.new.pass c.commit_call.new.pass reply c.in_ok-prepare.ensures.ok
    c.in_ok-prepare.ensures.exact (receipt_at c.commit_call.result reply)
    (record { entry = c.commit_call.ensures.finished; given = reply_given c.args.self.now.row.keeping reply c.requires.counts })
