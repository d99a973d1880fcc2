use Rattle.rc_tuple.specs.ColSet.{Within}
use Rattle.rc_tuple.specs.Relation.{Follows}
use Rattle.rc_tuple.specs.GrowthLaws.{missing}
use Rattle.rc_fd.proofs.implied.closure.Given as goal

abbrev pub invariant-loop-more : goal.invariant-loop-more
invariant-loop-more l = record {
  holds : Within l.fn.from l.all;
  follows : Follows l.deps l.fn.from l.all;
}

abbrev pub decreases-loop-more : goal.decreases-loop-more
decreases-loop-more l = missing 32 l.all
