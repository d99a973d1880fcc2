use Rattle.std.proofs.Common.{◌↔◌, ℕ, List, ◌++◌, drop}
use Rattle.rc_route.specs.GoodRoutes.{IsGoodFrom}
use Rattle.rc_route.proofs.good.after_edges.Given as goal

abbrev pub invariant-loop-edge : goal.invariant-loop-edge
invariant-loop-edge l = (need rest : List ℕ)
    → IsGoodFrom l.spec need l.fn.before.reached l.fn.before.visited (l.edges ++ rest) ↔ IsGoodFrom l.spec need l.reached l.visited (drop l.edge-index l.edges ++ rest)
