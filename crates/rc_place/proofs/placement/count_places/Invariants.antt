use Rattle.std.proofs.Common.{◌≡◌, ◌≤◌, ◌==◌, length, take}
use Rattle.rc_place.proofs.Imports.{filter, Place}
use Rattle.rc_place.proofs.placement.count_places.Given as goal

abbrev pub invariant-loop-place : goal.invariant-loop-place
invariant-loop-place l = record {
  counted : l.count ≡ length (filter (λ (p : Place). p.edge == l.edge) (take l.place-index l.place-items));
  few : l.count ≤ l.place-index;
}
