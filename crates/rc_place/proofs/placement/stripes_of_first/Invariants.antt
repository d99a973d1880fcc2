use Rattle.std.proofs.Common.{◌≡◌, ◌≤◌, ◌*◌, ◌^◌}
use Rattle.rc_spec.specs.Placement.{stripes_of_first}
use Rattle.rc_place.proofs.placement.stripes_of_first.Given as goal

abbrev pub invariant-loop-number : goal.invariant-loop-number
invariant-loop-number l = record {
  counted : l.stripes ≡ stripes_of_first l.spec l.number;
  few : l.stripes ≤ l.number * 2 ^ 32;
}
