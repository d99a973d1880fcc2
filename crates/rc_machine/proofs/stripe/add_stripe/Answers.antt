use Rattle.rc_machine.proofs.Imports.{subst, sym, AreStripesOf}
use Rattle.rc_machine.proofs.StripeLemmas.{one_stripe_more}
use Rattle.rc_machine.proofs.stripe.add_stripe.Goals as goal

-- where memory is wanted the list stays
pub returns-in_err-push-clause-stripes : goal.returns-in_err-push-clause-stripes
returns-in_err-push-clause-stripes c = subst (AreStripesOf c.args.compiled.now.spec c.args.tuple.now) (sym c.in_err-push.ensures.items) c.requires.stripes

pub returns-clause-stripes : goal.returns-clause-stripes
returns-clause-stripes c =
    subst (AreStripesOf c.args.compiled.now.spec c.args.tuple.now) (sym c.in_ok-push.ensures.items)
    (one_stripe_more c.args.compiled.now.spec c.args.tuple.now c.args.stripes.now.items _ c.requires.stripes (record { falls = c.tuple_stripe-stripe.ensures; within = c.requires.within }))
