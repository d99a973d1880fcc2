use Rattle.std.proofs.Common.{◌≡◌, subst}
use Rattle.rc_work.proofs.Imports.{IfOk, Spec, work_of, with_none}
use Rattle.rc_work.proofs.ranking.work_of.Goals as goal

pub returns-clause-work : goal.returns-clause-work
returns-clause-work c =
    subst (λ (s : Spec). IfOk c.work_over.result (λ work. work ≡ work_of s c.args.draft.now)) (with_none c.args.spec.now) c.work_over.ensures.work
