use Rattle.std.proofs.Common.{◌<◌, length, rules}
use Rattle.rc_store.proofs.Imports.{core_of, opened_on, open_group, steps_in}
use Rattle.rc_store.proofs.store.Store.open_group.Goals as goal

pub returns-in-Ok-clause-opened : goal.returns-in-Ok-clause-opened
returns-in-Ok-clause-opened g c =
    let left : length (core_of c.args.pass).own < c.args.self.now.limit = search rules in
    opened_on c.args.self.now c.args.declared.now c.args.pass
    (open_group c.of-begun.result.value c.hold_declared.new.pass c.in-Ok.locks.items c.new.result.items (steps_in c.none-prepared.result))
    c.requires.free c.held_agrees.ensures left c.hold_declared.ensures.pass c.in-Ok.ensures.held c.of-begun.ensures c.none-prepared.ensures.steps
