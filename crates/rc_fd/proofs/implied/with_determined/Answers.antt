use Rattle.std.proofs.Common.{sym, subst, ◌∙◌, ◌+◌}
use Rattle.std.proofs.lemmas.Bool.{false≢true}
use Rattle.rc_fd.proofs.ImpliedLemmas.{AreFirstTaken, taken_first, taken_more, taken_same, taken_all}
use Rattle.rc_fd.proofs.implied.with_determined.Goals as goal
use Rattle.rc_fd.proofs.implied.with_determined.Goals.{then-applies, else-applies}

pub loop-dep-init : goal.loop-dep-init
loop-dep-init c = taken_first c.args.deps.now c.args.set

pub loop-dep-preserved : goal.loop-dep-preserved
loop-dep-preserved c =
    elim c.if-applies.branch [
      | then-applies w ↦
          subst (λ z. AreFirstTaken c.args.deps.now c.args.set z (c.loop-dep.dep-index + 1)) (sym w.all-is)
          (taken_more c.args.deps.now c.args.set c.loop-dep.all w.union-all.result c.loop-dep.dep-index c.dep-item.result c.loop-dep-test.true c.dep-item.is c.loop-dep.invariant
          (c.applies.ensures.0 w.if-applies.true) w.union-all.ensures.value)
      | else-applies w ↦
          subst (λ z. AreFirstTaken c.args.deps.now c.args.set z (c.loop-dep.dep-index + 1)) (sym w.all-is)
          (taken_same c.args.deps.now c.args.set c.loop-dep.all c.loop-dep.dep-index c.dep-item.result c.loop-dep-test.true c.dep-item.is c.loop-dep.invariant
          (λ v. false≢true (sym w.if-applies.false ∙ c.applies.ensures.1 v)))
    ]

pub returns : goal.returns
returns c = record {
  holds = c.loop-dep.invariant.holds;
  follows = c.loop-dep.invariant.follows;
  takes = taken_all c.args.deps.now c.args.set c.loop-dep.all c.loop-dep.dep-index c.loop-dep-test.false c.loop-dep.invariant;
}
