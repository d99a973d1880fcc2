use Rattle.std.proofs.Common.{◌≡◌, take}
use Rattle.rc_machine.proofs.Imports.{Spec, GoesOn, HasLocked}
use Rattle.rc_machine.proofs.lock.take_all.Given as goal

abbrev pub invariant-loop-stripe : goal.invariant-loop-stripe
invariant-loop-stripe g l = record {
  locked : HasLocked (g.H.Holder.seen l.fn.holder) (g.H.Holder.seen l.holder) (take l.stripe-index l.stripes) l.mode;
  goes_on : GoesOn (g.H.Holder.seen l.fn.holder) (g.H.Holder.seen l.holder);
  counted : (spec : Spec) → g.H.Holder.is_sound l.fn.holder spec → (g.H.Holder.seen l.holder).refusals ≡ (g.H.Holder.seen l.fn.holder).refusals;
  sound : (spec : Spec) → g.H.Holder.is_sound l.fn.holder spec → g.H.Holder.is_sound l.holder spec;
}
