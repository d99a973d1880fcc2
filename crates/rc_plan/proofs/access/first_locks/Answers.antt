use Rattle.std.proofs.Common.{◌≡◌, false, get_or, sym, ap, ◌∙◌}
use Rattle.rc_plan.specs.Access.{is_lock}
use Rattle.rc_plan.proofs.FirstLemmas.{ends_at}
use Rattle.rc_plan.proofs.access.first_locks.Goals as goal

pub returns-then-not-is_lock-clause-most : goal.returns-then-not-is_lock-clause-most
returns-then-not-is_lock-clause-most c n within all =
    let plan = c.args.plan.now in
    let at = c.loop-at.at in
    let d = c.index-plan-at.result in
    let fails : is_lock (get_or plan at d) ≡ false = sym (ap is_lock c.index-plan-at.is) ∙ sym c.is_lock.ensures ∙ c.if-not-is_lock.true in
    ends_at is_lock plan n at d c.loop-at-test.true all fails
