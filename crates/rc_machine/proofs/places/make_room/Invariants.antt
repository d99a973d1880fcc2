use Rattle.std.proofs.Common.{◌≡◌, take}
use Rattle.rc_machine.proofs.Imports.{Spec, held_of, HaveRoom, IsSameButLent}
use Rattle.rc_machine.proofs.places.make_room.Given as goal

abbrev pub invariant-loop-place : goal.invariant-loop-place
invariant-loop-place g l = record {
  room : HaveRoom (take l.place-index l.places) (g.H.Holder.seen l.holder);
  held : held_of (g.H.Holder.seen l.holder) ≡ held_of (g.H.Holder.seen l.fn.holder);
  lent : IsSameButLent (g.H.Holder.seen l.fn.holder) (g.H.Holder.seen l.holder);
  sound : (spec : Spec) → g.H.Holder.is_sound l.fn.holder spec → g.H.Holder.is_sound l.holder spec;
}
