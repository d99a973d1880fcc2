use Rattle.std.proofs.Common.{◌≡◌, ◌↔◌, true, List, ℕ, Some, ap, subst, sym, ◌∙◌}
use Rattle.rc_check.proofs.Imports.{false≢true, all_columns, ProgressSets}
use Rattle.rc_check.proofs.RuleLemmas.{within_test}
use Rattle.rc_check.proofs.found.has_found_tuple.Goals as goal

pub returns-then-has_probed_for : goal.returns-then-has_probed_for
returns-then-has_probed_for c = λ p e.
    let probed = subst (λ (xs : List ℕ). (c.has_probed_for.result ≡ true) ↔ (p.probe ≡ Some xs)) c.pattern_of.ensures (c.has_probed_for.ensures p e) in
    let test = within_test c.all_columns.result (all_columns c.args.spec.now) c.args.before.now.visited p.visited c.within.result c.within.ensures.found c.all_columns.ensures (ap (λ (s : ProgressSets). s.visited) e) in
    ((λ h. (probed.0 c.if-has_probed_for.true, test.0 h)), λ k. test.1 k.1)

pub returns-else-has_probed_for : goal.returns-else-has_probed_for
returns-else-has_probed_for c = λ p e.
    let probed = subst (λ (xs : List ℕ). (c.has_probed_for.result ≡ true) ↔ (p.probe ≡ Some xs)) c.pattern_of.ensures (c.has_probed_for.ensures p e) in
    ((λ h. absurd (false≢true (sym c.if-has_probed_for.false ∙ h))), λ k. probed.1 k.0)
