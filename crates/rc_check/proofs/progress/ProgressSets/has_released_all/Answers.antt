use Rattle.std.proofs.Common.{sym, ◌∙◌}
use Rattle.std.proofs.lemmas.Bool.{false≢true}
use Rattle.rc_plan.specs.declared.statement.Which.TheVariants as which
use Rattle.rc_check.proofs.RuleLemmas.{keyed_released, whole_released, all_released}
use Rattle.rc_check.proofs.progress.ProgressSets.has_released_all.Goals as goal

pub returns-then-within : goal.returns-then-within
returns-then-within c = λ p e.
    let keyed = keyed_released p c.args.self.now c.within.result e c.within.ensures.found in
    let whole = whole_released p c.args.self.now c.within-then-within.result e c.within-then-within.ensures.found in
    ((λ h. all_released p (keyed.0 c.if-within.true) (whole.0 h)), λ k. whole.1 (λ n m. k n (which.All, m)))

pub returns-else-within : goal.returns-else-within
returns-else-within c = λ p e.
    let keyed = keyed_released p c.args.self.now c.within.result e c.within.ensures.found in
    ((λ h. absurd (false≢true (sym c.if-within.false ∙ h))), λ k. keyed.1 (λ n m. k n (which.Keyed, m)))
