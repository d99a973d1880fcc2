use Rattle.std.proofs.Common.{◌≡◌, ◌∷◌, map, take}
use Rattle.rc_machine.proofs.Imports.{edge_numbers, others, classes_of, place_in, AreStripesOf}
use Rattle.rc_machine.proofs.places.place_classes_from.Given as goal

abbrev pub invariant-loop-class : goal.invariant-loop-class
invariant-loop-class l = record {
  placed : l.places.items ≡ map (place_in l.compiled.spec l.tuple) (l.first ∷ others l.first (take l.class-index (classes_of l.compiled.spec (edge_numbers l.compiled.spec))));
  stripes : AreStripesOf l.compiled.spec l.tuple l.stripes.items;
}
