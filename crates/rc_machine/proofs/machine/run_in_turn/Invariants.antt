use Rattle.std.proofs.Common.{◌≡◌, drop}
use Rattle.rc_machine.proofs.Imports.{Spec, GoesOn, held_of, AreTakenAsOffered, IsAt, AreWide}
use Rattle.rc_machine.proofs.machine.run_in_turn.Given as goal

abbrev pub invariant-loop-at : goal.invariant-loop-at
invariant-loop-at g l = record {
  run : IsAt l.compiled.spec l.plan l.call (drop l.at l.plan) l.space.bindings.tuples l.space.old_tuple (held_of (g.H.Holder.seen l.holder));
  wide : AreWide l.compiled.spec l.space;
  taken : AreTakenAsOffered (g.H.Holder.seen l.holder);
  counted : (g.H.Holder.seen l.holder).refusals ≡ (g.H.Holder.seen l.fn.holder).refusals;
  goes_on : GoesOn (g.H.Holder.seen l.fn.holder) (g.H.Holder.seen l.holder);
  reply : l.reply ≡ l.fn.reply;
  sound : (spec : Spec) → g.H.Holder.is_sound l.fn.holder spec → g.H.Holder.is_sound l.holder spec;
}
