use Rattle.std.proofs.Common.{◌≡◌, ◌∷◌, [], None, drop, take}
use Rattle.rc_machine.proofs.Imports.{Spec, GoesOn, held_of, AreLockedFor, AreTakenAsOffered, stripes_held, IsAt, AreStripesOf}
use Rattle.rc_machine.proofs.arguments.lock_arguments.Given as goal

abbrev pub invariant-loop-at : goal.invariant-loop-at
invariant-loop-at g l = record {
  run : IsAt l.compiled.spec l.plan l.call (drop l.at l.plan) (l.call.args ∷ []) None (held_of (g.H.Holder.seen l.holder));
  held : AreLockedFor l.compiled.spec l.call.args (take l.at l.plan) (stripes_held (held_of (g.H.Holder.seen l.holder)));
  stripes : AreStripesOf l.compiled.spec l.call.args l.space.class_stripes.items;
  taken : AreTakenAsOffered (g.H.Holder.seen l.holder);
  counted : (g.H.Holder.seen l.holder).refusals ≡ (g.H.Holder.seen l.fn.holder).refusals;
  goes_on : GoesOn (g.H.Holder.seen l.fn.holder) (g.H.Holder.seen l.holder);
  sound : (spec : Spec) → g.H.Holder.is_sound l.fn.holder spec → g.H.Holder.is_sound l.holder spec;
}
