use Rattle.std.proofs.Common.{◌≡◌}
use Rattle.rc_bindings.proofs.Imports.{FiltersInPlace, in_ranges, with_tuples}
use Rattle.rc_bindings.proofs.bindings.Bindings.keep_in_ranges.Given as goal

abbrev pub invariant-loop-at : goal.invariant-loop-at
invariant-loop-at l = record {
  same : l.self ≡ with_tuples l.fn.self l.self.tuples;
  kept : FiltersInPlace (in_ranges l.ranges) l.fn.self.tuples l.self.tuples l.kept l.at;
}
