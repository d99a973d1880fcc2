use Rattle.std.proofs.Common.{◌≡◌}
use Rattle.rc_spec.specs.Adequacy.{visited}
use Rattle.rc_place.proofs.adequacy.visited.Given as goal

abbrev pub invariant-loop-number : goal.invariant-loop-number
invariant-loop-number l = l.cols ≡ visited l.spec l.number
