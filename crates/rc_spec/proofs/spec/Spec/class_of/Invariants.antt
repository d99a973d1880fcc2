use Rattle.std.proofs.Common.{◌≡◌, drop, eqb}
use Rattle.rc_spec.proofs.Imports.{find, option_map_or, Place, class_of}
use Rattle.rc_spec.proofs.spec.Spec.class_of.Given as goal

abbrev pub invariant-loop-place : goal.invariant-loop-place
invariant-loop-place l = option_map_or (λ (place : Place). place.class) (find (λ (place : Place). eqb place.edge l.edge) (drop l.place-index l.place-items)) 0 ≡ class_of l.self l.edge
