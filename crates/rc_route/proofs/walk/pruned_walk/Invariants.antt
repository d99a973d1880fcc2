use Rattle.std.proofs.Common.{◌≡◌, ℕ, ◌+◌, ◌*◌, length, false, if◌then◌else◌}
use Rattle.rc_route.proofs.Imports.{IsGoodRoute, all_edges, ArePasses, IsPass}
use Rattle.rc_route.proofs.walk.pruned_walk.Given as goal

abbrev pub invariant-loop-fewer : goal.invariant-loop-fewer
invariant-loop-fewer l = record {
  passes : (n : ℕ) × ArePasses (IsGoodRoute l.spec l.need) n (all_edges l.spec) l.walk.items;
  last : l.fewer ≡ false → IsPass (IsGoodRoute l.spec l.need) l.walk.items l.walk.items;
}

abbrev pub decreases-loop-fewer : goal.decreases-loop-fewer
decreases-loop-fewer l = 2 * length l.walk.items + (if l.fewer then 1 else 0)
