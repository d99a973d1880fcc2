use Rattle.rc_machine.proofs.Imports.{Spec, lowered_all, HasTuple}
use Rattle.rc_machine.proofs.PlaceLemmas.{AreChangedFirst}
use Rattle.rc_machine.proofs.apply.sub_placed.Given as goal

abbrev pub invariant-loop-place : goal.invariant-loop-place
invariant-loop-place g l = record {
  rows : AreChangedFirst lowered_all HasTuple l.tuple l.places l.place-index (g.H.Holder.seen l.fn.holder) (g.H.Holder.seen l.holder);
  sound : (spec : Spec) → g.H.Holder.is_sound l.fn.holder spec → g.H.Holder.is_sound l.holder spec;
}
