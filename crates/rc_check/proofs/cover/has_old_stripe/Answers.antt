use Rattle.std.proofs.Common.{refl, sym, ◌∙◌}
use Rattle.rc_check.proofs.Imports.{false≢true, class_at}
use Rattle.rc_check.proofs.RuleLemmas.{keyed_test, within_test}
use Rattle.rc_check.proofs.cover.has_old_stripe.Goals as goal

pub returns-then-has : goal.returns-then-has
returns-then-has c = λ p e.
    let keyed = keyed_test p c.args.before.now c.args.class c.has.result e c.has.ensures.found in
    let test = within_test c.striping.result (class_at c.args.spec.now c.args.class).cols c.args.pattern c.args.pattern c.within.result c.within.ensures.found c.striping.ensures refl in
    ((λ h m. test.0 h), λ k. test.1 (k (keyed.0 c.if-has.true)))

pub returns : goal.returns
returns c = λ p e.
    let keyed = keyed_test p c.args.before.now c.args.class c.has.result e c.has.ensures.found in
    ((λ h m. absurd (false≢true (sym c.if-has.false ∙ keyed.1 m))), λ k. refl)
