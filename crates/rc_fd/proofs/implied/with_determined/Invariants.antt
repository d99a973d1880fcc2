use Rattle.rc_fd.proofs.ImpliedLemmas.{AreFirstTaken}
use Rattle.rc_fd.proofs.implied.with_determined.Given as goal

abbrev pub invariant-loop-dep : goal.invariant-loop-dep
invariant-loop-dep l = AreFirstTaken l.deps l.set l.all l.dep-index
