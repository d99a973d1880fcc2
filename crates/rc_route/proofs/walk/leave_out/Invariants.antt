use Rattle.std.proofs.Common.{◌≡◌, ◌<◌, ◌≤◌, List, ℕ, length, true, false}
use Rattle.rc_route.proofs.Imports.{IsGoodRoute, IsPass}
use Rattle.rc_route.proofs.PassLemmas.{IsLeftAt}
use Rattle.rc_route.proofs.walk.leave_out.Given as goal

abbrev pub invariant-loop-place : goal.invariant-loop-place
invariant-loop-place l = record {
  within : l.place ≤ length l.edges.items;
  rest : (left : List ℕ) → IsLeftAt (IsGoodRoute l.spec l.need) l.edges.items l.place left → IsPass (IsGoodRoute l.spec l.need) l.initial.edges.items left;
  same : l.fewer ≡ false → l.edges.items ≡ l.initial.edges.items;
  less : l.fewer ≡ true → length l.edges.items < length l.initial.edges.items;
}

abbrev pub decreases-loop-place : goal.decreases-loop-place
decreases-loop-place l = l.place
