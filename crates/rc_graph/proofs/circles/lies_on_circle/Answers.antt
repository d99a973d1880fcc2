use Rattle.std.proofs.Common.{◌≡◌, ◌↔◌, true, sym, subst}
use Rattle.rc_spec.specs.Decomposition.{LiesOnCircle}
use Rattle.rc_graph.proofs.CircleLemmas.{circle_exactly}
use Rattle.rc_graph.proofs.circles.lies_on_circle.Goals as goal

pub returns : goal.returns
returns c =
    subst (λ b. (b ≡ true) ↔ LiesOnCircle c.args.spec.now c.args.node) (sym c.has.ensures.found)
    (circle_exactly c.args.spec.now c.args.node c.reached_from.result c.reached_from.ensures)
