use Rattle.std.proofs.Common.{◌∷◌, [], Err, subst, ap}
use Rattle.rc_machine.specs.Locks.{HasRefusedOne}
use Rattle.rc_machine.proofs.LockLemmas.{held_stop}
use Rattle.rc_machine.proofs.arguments.lock_stripe.Goals as goal

pub returns-in_err-take_all-clause-refused : goal.returns-in_err-take_all-clause-refused
returns-in_err-take_all-clause-refused g c h e =
    let given = c.from_residual-in_err-take_all.ensures.1 in
    let is = rw e at given in
    subst (λ z. HasRefusedOne (g.H.Holder.seen c.args.holder.now) (g.H.Holder.seen c.take_all.new.holder) (z ∷ []) c.args.mode h) c.in_ok-stripe.ensures.stripe
    (c.in_err-take_all.ensures.refused h (ap Err (held_stop c.in_err-take_all.field-0.0 h is)))
