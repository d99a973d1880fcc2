use Rattle.rc_machine.proofs.Imports.{subst, In, Class}
use Rattle.rc_machine.proofs.stripe.tuple_stripe.Goals as goal

pub hash_of-requires : goal.hash_of-requires
hash_of-requires c k m = c.requires.within k (subst (λ (z : Class). In k z.cols) c.class-named.ensures.value m)
