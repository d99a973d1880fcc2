use Rattle.std.proofs.Common.{◌≡◌, filter, map}
use Rattle.rc_machine.proofs.Imports.{range_with_len, has_column, place_in, classes_of, AreStripesOf}
use Rattle.rc_machine.proofs.places.place_classes_with.Given as goal

abbrev pub invariant-loop-edge : goal.invariant-loop-edge
invariant-loop-edge l = record {
  first : l.places.items ≡ map (place_in l.compiled.spec l.tuple) (classes_of l.compiled.spec (filter (has_column l.compiled.spec l.cols) (range_with_len 0 l.edge)));
  stripes : AreStripesOf l.compiled.spec l.tuple l.stripes.items;
}
