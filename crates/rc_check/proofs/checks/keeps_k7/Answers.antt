use Rattle.rc_check.proofs.RuleLemmas.{after_all_checked}
use Rattle.rc_check.proofs.checks.keeps_k7.Goals as goal

pub returns-then-before : goal.returns-then-before
returns-then-before c = λ p e.
    after_all_checked c.args.spec.now c.args.op.now p c.args.before.now c.args.statement.now c.in-CheckDep.dep e c.in-CheckDep.is c.if-before.true
