use Rattle.rc_plan.specs.declared.statement.Which.TheVariants as which
use Rattle.rc_check.proofs.RuleLemmas.{keyed_test, whole_test, locked_whole}
use Rattle.rc_check.proofs.progress.ProgressSets.has_locked.Goals as goal

pub returns-then-has : goal.returns-then-has
returns-then-has c = λ p e. ((λ h. (which.Keyed, (keyed_test p c.args.self.now c.args.class c.has.result e c.has.ensures.found).0 h)), λ k. c.if-has.true)

pub returns-else-has : goal.returns-else-has
returns-else-has c = λ p e.
    locked_whole p c.args.class c.has.result c.has-else-has.result (keyed_test p c.args.self.now c.args.class c.has.result e c.has.ensures.found)
    (whole_test p c.args.self.now c.args.class c.has-else-has.result e c.has-else-has.ensures.found) c.if-has.false
