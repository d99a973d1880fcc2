use Rattle.std.proofs.Common.{◌≡◌, ◌↔◌, true, sym, subst}
use Rattle.rc_check.proofs.Imports.{Spec, PlanRule, KeepsK6, StatementKeeps}
use Rattle.rc_check.proofs.check.keeps.Goals as goal

pub returns-in-K6 : goal.returns-in-K6
returns-in-K6 c p e =
    subst (λ (r : PlanRule). (c.keeps_k6.result ≡ true) ↔ StatementKeeps c.args.accepted.now c.args.op.now r p c.args.statement.now) (sym c.in-K6.is)
    (subst (λ (s : Spec). (c.keeps_k6.result ≡ true) ↔ KeepsK6 s c.args.op.now p c.args.statement.now) c.spec-spec.ensures.value (c.keeps_k6.ensures p e))
