use Rattle.rc_check.proofs.RuleLemmas.{not_test, released_test}
use Rattle.rc_check.proofs.phases.may_release.Goals as goal

pub returns-then-has_locked : goal.returns-then-has_locked
returns-then-has_locked c = λ p e.
    let free = not_test c.has.result (released_test p c.args.before.now c.args.class c.has.result e c.has.ensures.found) in
    ((λ h. ((c.has_locked.ensures p e).0 c.if-has_locked.true, free.0 h)), λ k. free.1 k.1)
