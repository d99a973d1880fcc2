use Rattle.rc_machine.proofs.Imports.{get_or, refl, get_or_in}
use Rattle.rc_machine.proofs.stripe.stripe_in.Goals as goal

pub returns-then-found-class : goal.returns-then-found-class
returns-then-found-class c = (get_or c.args.stripes.now c.loop-found.found-index _, get_or_in c.args.stripes.now c.loop-found.found-index _ c.loop-found-test.true, c.if-found-class.true, refl)
