use Rattle.rc_multi.proofs.Imports.{ap, refl, subst, sym, IsSameButLent, first_offered}
use Rattle.rc_multi.proofs.group.run_lent.Goals as goal

pub invariant_of-offered : goal.invariant_of-offered
invariant_of-offered g c = record {
  steady = subst (λ h. IsSameButLent (g.H.Holder.seen h) (g.H.Holder.seen c.args.holder.now)) (sym c.requires.begun) refl;
  kept = first_offered (g.H.Holder.seen c.args.begun.now.value) (g.H.Holder.seen c.args.holder.now) c.args.taken.now.items (ap (λ h. g.H.Holder.seen h) c.requires.begun) c.requires.none c.requires.rising;
}
