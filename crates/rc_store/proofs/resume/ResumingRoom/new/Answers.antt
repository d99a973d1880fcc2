use Rattle.rc_store.proofs.Imports.{sym, subst, arith, IsSealed, placed_total}
use Rattle.rc_store.proofs.resume.ResumingRoom.new.Goals as goal

pub stripe_total-stripes-requires : goal.stripe_total-stripes-requires
stripe_total-stripes-requires c =
    let sealed : IsSealed c.spec.result.now = subst IsSealed (sym c.spec.ensures.value) c.spec.ensures.sealed in
    record { few = placed_total c.spec.result.now sealed.accepted.placed }

pub new-requires-2 : goal.new-requires-2
new-requires-2 c =
    let sealed : IsSealed c.spec.result.now = subst IsSealed (sym c.spec.ensures.value) c.spec.ensures.sealed in
    let few = placed_total c.spec.result.now sealed.accepted.placed in
    let is = c.stripe_total-stripes.ensures in
    omega (arith, few, is)
