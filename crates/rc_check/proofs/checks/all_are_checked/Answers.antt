use Rattle.std.proofs.Common.{◌≡◌, ℕ, ◌+◌, ◌<◌, List, length, refl, sym, ap, subst, ◌∙◌, inl, inr, arith}
use Rattle.rc_check.proofs.Imports.{false≢true, in_has, Within, is_within, within_from_test, Dep, dep_at}
use Rattle.rc_check.proofs.RuleLemmas.{checked_test, dep_found, place_more, places_checked, place_unchecked}
use Rattle.rc_check.proofs.checks.all_are_checked.Goals as goal
use Rattle.rc_check.proofs.checks.all_are_checked.Goals.{else-not-within-via-then-not-within+else-not-has, else-not-within-via-else-not-within}

pub returns-then-not-has : goal.returns-then-not-has
returns-then-not-has c = λ p e.
    let spec = c.args.spec.now in
    let n : ℕ = c.loop-place.place in
    let below : n < length spec.deps = omega (arith, c.loop-place-test.true, ap (λ (l : List Dep). length l) c.list-dep-items.ensures) in
    let same : dep_at spec (n + 1) ≡ c.dep-item.result = dep_found spec c.list-dep-items.result.now n c.dep-item.result c.list-dep-items.ensures below c.dep-item.is in
    let inside = c.within.ensures.found ∙ ap (λ (d : Dep). is_within c.pattern_of-pattern.result d.left) (sym same) in
    let checked = checked_test p c.args.before.now n c.has.result e c.has.ensures.found in (
      (λ h. absurd (false≢true h)),
      λ k. absurd (place_unchecked spec c.args.op.now p n c.pattern_of-pattern.result c.within.result c.has.result c.pattern_of-pattern.ensures below inside checked
          c.if-not-within.true c.if-not-has.true k),
    )

pub loop-place-preserved : goal.loop-place-preserved
loop-place-preserved c =
    let spec = c.args.spec.now in
    let n : ℕ = c.loop-place.place in
    let below : n < length spec.deps = omega (arith, c.loop-place-test.true, ap (λ (l : List Dep). length l) c.list-dep-items.ensures) in
    let same : dep_at spec (n + 1) ≡ c.dep-item.result = dep_found spec c.list-dep-items.result.now n c.dep-item.result c.list-dep-items.ensures below c.dep-item.is in
    place_more spec c.pattern_of-pattern.result c.args.before.now.checked n c.loop-place.invariant
    (elim c.else-not-within.branch [
      | else-not-within-via-then-not-within+else-not-has w ↦ inr (in_has c.args.before.now.checked n (sym w.has.ensures.found ∙ w.if-not-has.false))
      | else-not-within-via-else-not-within w ↦ inl (subst (λ (d : Dep). Within c.pattern_of-pattern.result d.left) (sym same)
          (within_from_test c.pattern_of-pattern.result c.dep-item.result.left (sym c.within.ensures.found ∙ w.if-not-within.false)))
    ])

pub returns : goal.returns
returns c = λ p e. (
  (λ h. places_checked c.args.spec.now c.args.op.now p c.args.before.now c.pattern_of-pattern.result c.loop-place.place e c.pattern_of-pattern.ensures
      (omega (arith, c.loop-place-test.false, ap (λ (l : List Dep). length l) c.list-dep-items.ensures)) c.loop-place.invariant),
  λ k. refl,
)
