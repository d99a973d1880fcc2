use Rattle.rc_store.specs.OpenGroupLaws.{of_pass_on}
use Rattle.rc_store.proofs.store.Store.call_on.Goals as goal

pub returns-clause-whole : goal.returns-clause-whole
returns-clause-whole g c =
    of_pass_on c.self.inside.row c.args.pass.now c.run_on.new.pass c.in_ok-prepared.prepared c.run_on.ensures.way
    (c.in_ok-prepared.ensures.whole c.args.pass.now c.requires.whole)
