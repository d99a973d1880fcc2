use Rattle.rc_check.proofs.RuleLemmas.{checks_done}
use Rattle.rc_check.proofs.checks.has_checked.Goals as goal

pub returns-then-before : goal.returns-then-before
returns-then-before c = λ p e.
    checks_done c.args.spec.now c.args.op.now p c.args.before.now c.all_are_checked.result e c.if-before.true (c.all_are_checked.ensures p e)
