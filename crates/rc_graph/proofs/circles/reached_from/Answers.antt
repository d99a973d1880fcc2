use Rattle.std.proofs.Common.{◌<◌, sym, subst}
use Rattle.rc_graph.proofs.CircleLemmas.{union_reached, reached_exactly}
use Rattle.rc_tuple.specs.GrowthLaws.{missing, missing_union}
use Rattle.rc_graph.proofs.circles.reached_from.Goals as goal

pub loop-next-smaller : goal.loop-next-smaller
loop-next-smaller c =
    subst (λ z. missing 32 z < missing 32 c.loop-next.reached) (sym c.union-reached.ensures.value)
    (missing_union c.loop-next.reached c.loop-next.next c.loop-next.invariant.set (sym c.loop-next-test.ensures.found))

pub loop-next-preserved : goal.loop-next-preserved
loop-next-preserved c = record {
  reached = union_reached c.args.spec.now c.args.node c.loop-next.reached c.loop-next.next c.union-reached.result
      c.loop-next.invariant.reached c.loop-next.invariant.targets c.union-reached.ensures.value;
  targets = c.targets-next-in-loop-next.ensures.members;
  set = c.targets-next-in-loop-next.ensures.set;
}

pub returns : goal.returns
returns c =
    reached_exactly c.args.spec.now c.args.node c.loop-next.reached c.loop-next.next
    c.loop-next.invariant.reached c.loop-next.invariant.targets (sym c.loop-next-test.ensures.found)
