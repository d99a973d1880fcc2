use Rattle.std.proofs.Common.{◌≡◌, ◌++◌, drop, map, take}
use Rattle.rc_inline.specs.Contraction.{renumbered_place}
use Rattle.rc_inline.proofs.contraction.renumber_places.Given as goal

abbrev pub invariant-loop-place : goal.invariant-loop-place
invariant-loop-place l =
    l.places ≡ map (renumbered_place l.gone) (take l.place-index l.initial.places) ++ drop l.place-index l.initial.places
