use Rattle.std.proofs.Common.{sym, ◌∙◌, ◌↔◌, List, ℕ}
use Rattle.rc_tuple.specs.ColSet.{Within}
use Rattle.rc_tuple.specs.ColSetLaws.{within_from_test}
use Rattle.rc_tuple.specs.Relation.{Follows}
use Rattle.rc_fd.specs.Closed.{IsClosed}
use Rattle.rc_fd.specs.FollowsLaws.{follows_transitive}
use Rattle.rc_tuple.specs.GrowthLaws.{missing_fewer}
use Rattle.rc_fd.proofs.ImpliedLemmas.{closed_at_end, closure_sets, closure_columns}
use Rattle.rc_fd.proofs.implied.closure.Goals as goal

pub loop-more-smaller : goal.loop-more-smaller
loop-more-smaller c =
    missing_fewer c.loop-more.all c.with_determined-more.result c.within.ensures.set c.with_determined-more.ensures.holds
    (sym c.within.ensures.found ∙ c.if-within.false)

pub loop-more-preserved : goal.loop-more-preserved
loop-more-preserved c = record {
  holds = λ k h. c.with_determined-more.ensures.holds k (c.loop-more.invariant.holds k h);
  follows = follows_transitive c.args.deps.now c.args.from c.loop-more.all c.with_determined-more.result c.loop-more.invariant.follows c.with_determined-more.ensures.follows;
}

pub returns-then-within : goal.returns-then-within
returns-then-within c =
    let more : List ℕ = c.with_determined-more.result in
    let holds : Within c.args.from more = λ k h. c.with_determined-more.ensures.holds k (c.loop-more.invariant.holds k h) in
    let follows : Follows c.args.deps.now c.args.from more =
    follows_transitive c.args.deps.now c.args.from c.loop-more.all more c.loop-more.invariant.follows c.with_determined-more.ensures.follows in
    let closed : IsClosed c.args.deps.now more =
    closed_at_end c.args.deps.now c.loop-more.all more (within_from_test more c.loop-more.all (sym c.within.ensures.found ∙ c.if-within.true)) c.with_determined-more.ensures.takes in
    let sets : (ys : List ℕ) → Within ys more ↔ Follows c.args.deps.now c.args.from ys = closure_sets c.args.deps.now c.args.from more holds follows closed in
    record { implied = closure_columns c.args.deps.now c.args.from more sets; implied_sets = sets; follows = follows; holds = holds; set = c.within.ensures.set }
