use Rattle.rc_spec.specs.declared.lock.Mode.TheVariants.{Exclusive}
use Rattle.rc_row.proofs.WaitLemmas.{waited_first, waited_above, waited_more}
use Rattle.rc_row.proofs.row.Row.wait_lock.Goals as goal

pub loop-init : goal.loop-init
loop-init g c = (c.requires.pass, waited_first Exclusive c.args.self.now.key.passes c.args.stripe c.args.pass.now)

pub try_lock-requires-clause-above : goal.try_lock-requires-clause-above
try_lock-requires-clause-above g c = waited_above Exclusive c.args.self.now.key.passes c.args.stripe c.args.pass.now c.loop.pass c.loop.pass c.loop.invariant.1 c.args.stripe c.requires.above

pub loop-preserved : goal.loop-preserved
loop-preserved g c = (
  c.try_lock.ensures.pass,
  waited_more Exclusive c.args.self.now.key.passes c.args.stripe c.args.pass.now c.loop.pass c.try_lock.new.pass c.loop.invariant.1 c.in-Some-try_lock.field-0 c.in-Some-try_lock.ensures.found c.in-Some-try_lock.ensures.refused,
)
