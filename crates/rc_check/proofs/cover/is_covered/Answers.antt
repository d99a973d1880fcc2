use Rattle.std.proofs.Common.{sym, ◌∙◌}
use Rattle.std.proofs.lemmas.Bool.{false≢true}
use Rattle.rc_plan.specs.declared.statement.Which.TheVariants as which
use Rattle.rc_check.proofs.RuleLemmas.{keyed_test, whole_test, covered_keyed, not_covered}
use Rattle.rc_check.proofs.cover.is_covered.Goals as goal

pub returns-then-has : goal.returns-then-has
returns-then-has c = λ p e.
    ((λ h. (which.All, (whole_test p c.args.before.now c.args.class c.has.result e c.has.ensures.found).0 h, tt)), λ k. c.if-has.true)

pub returns-then-has-2 : goal.returns-then-has-2
returns-then-has-2 c = λ p e.
    covered_keyed c.args.spec.now p c.args.class c.has.result c.has-else-has.result c.covers_search.result
    (whole_test p c.args.before.now c.args.class c.has.result e c.has.ensures.found)
    (keyed_test p c.args.before.now c.args.class c.has-else-has.result e c.has-else-has.ensures.found) (c.covers_search.ensures p e) c.if-has.false c.if-has-2.true

pub returns-else-has-2 : goal.returns-else-has-2
returns-else-has-2 c = λ p e. (
  (λ h. absurd (false≢true (sym c.if-has-2.false ∙ h))),
  λ k. absurd (not_covered c.args.spec.now p c.args.class c.has.result c.has-else-has.result
      (whole_test p c.args.before.now c.args.class c.has.result e c.has.ensures.found)
      (keyed_test p c.args.before.now c.args.class c.has-else-has.result e c.has-else-has.ensures.found) c.if-has.false c.if-has-2.false k),
)
