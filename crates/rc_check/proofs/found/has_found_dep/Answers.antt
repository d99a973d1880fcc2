use Rattle.std.proofs.Common.{◌≡◌, ℕ, ◌-◌, ◌↔◌, true, Some, sym, ap, subst, ◌∙◌, arith}
use Rattle.rc_check.proofs.Imports.{false≢true, Within, Dep, at_found, dep_at, no_dep, ProgressSets}
use Rattle.rc_check.proofs.RuleLemmas.{within_test}
use Rattle.rc_check.proofs.found.has_found_dep.Goals as goal

pub returns-then-has_found : goal.returns-then-has_found
returns-then-has_found c = λ p e.
    let spec = c.args.spec.now in
    let n : ℕ = c.args.dep - 1 in
    let same : dep_at spec c.args.dep ≡ c.index-list-dep.result = at_found c.list.result.now spec.deps n no_dep c.index-list-dep.result c.list.ensures (omega (arith, c.requires.some, c.requires.known)) c.index-list-dep.is in
    let found = subst (λ (d : Dep). (c.has_found.result ≡ true) ↔ ((p.probe ≡ Some d.left) × Within d.left p.visited)) (sym same) (c.has_found.ensures p e) in
    let right = within_test c.index-list-dep.result.right (dep_at spec c.args.dep).right c.args.before.now.visited p.visited c.within.result c.within.ensures.found
    (ap (λ (d : Dep). d.right) (sym same)) (ap (λ (s : ProgressSets). s.visited) e) in
    let left = found.0 c.if-has_found.true in ((λ h. (left.0, left.1, right.0 h)), λ k. right.1 k.2)

pub returns-else-has_found : goal.returns-else-has_found
returns-else-has_found c = λ p e.
    let spec = c.args.spec.now in
    let n : ℕ = c.args.dep - 1 in
    let same : dep_at spec c.args.dep ≡ c.index-list-dep.result = at_found c.list.result.now spec.deps n no_dep c.index-list-dep.result c.list.ensures (omega (arith, c.requires.some, c.requires.known)) c.index-list-dep.is in
    let found = subst (λ (d : Dep). (c.has_found.result ≡ true) ↔ ((p.probe ≡ Some d.left) × Within d.left p.visited)) (sym same) (c.has_found.ensures p e) in
    ((λ h. absurd (false≢true (sym c.if-has_found.false ∙ h))), λ k. found.1 (k.0, k.1))
