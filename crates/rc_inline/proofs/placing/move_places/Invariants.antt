use Rattle.std.proofs.Common.{◌≡◌, ◌++◌, drop, map, take}
use Rattle.rc_inline.specs.Placing.{moved}
use Rattle.rc_inline.proofs.placing.move_places.Given as goal

abbrev pub invariant-loop-place : goal.invariant-loop-place
invariant-loop-place l =
    l.places ≡ map (moved l.classes) (take l.place-index l.initial.places) ++ drop l.place-index l.initial.places
