use Rattle.rc_store.specs.StepLaws.{call_made}
use Rattle.rc_store.proofs.store.Store.make.Goals as goal

pub returns-clause-made : goal.returns-clause-made
returns-clause-made g c = (
  c.prepare.new.reply,
  call_made c.args.self.now c.args.call.now c.args.pass.now c.prepare.new.pass c.finish.new.pass c.prepare.new.reply
      c.in_ok-prepare.ensures.ok c.in_ok-prepare.ensures.exact c.in_ok-finish.field-0
      c.in_ok-finish.ensures.ok,
)
