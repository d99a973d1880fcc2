use Rattle.std.proofs.Common.{◌≡◌, ◌<◌, ◌↔◌, ℕ, List, true, length, refl, sym, ap, subst, ◌∙◌, arith, below_more}
use Rattle.rc_check.proofs.Imports.{false≢true, In, Within, Edge, Spec, IsOpAmong, class_at, class_of, Progress}
use Rattle.rc_plan.specs.declared.statement.Which.TheVariants as which
use Rattle.rc_check.proofs.cover.has_old_stripes.Goals as goal

pub pattern_of-pattern-requires-clause-known : goal.pattern_of-pattern-requires-clause-known
pattern_of-pattern-requires-clause-known c = subst (λ (s : Spec). IsOpAmong (length s.columns) c.args.op.now) (sym c.spec-spec.ensures.value) c.requires

-- the test for one edge, in the specification of the acceptance
abbrev IsOldThere : Spec → Progress → List ℕ → ℕ → Type 0
IsOldThere spec p cols e = In (class_of spec e, which.Keyed) p.locked → Within (class_at spec (class_of spec e)).cols cols

here : (spec others : Spec) (p : Progress) (cols : List ℕ) (e class : ℕ) (A : Type 0) → others ≡ spec → class ≡ class_of spec e
    → A ↔ (In (class, which.Keyed) p.locked → Within (class_at others class).cols cols) → A ↔ IsOldThere spec p cols e
here spec others p cols e class A same is test =
    subst (λ n. A ↔ (In (n, which.Keyed) p.locked → Within (class_at spec n).cols cols)) is
    (subst (λ (s : Spec). A ↔ (In (class, which.Keyed) p.locked → Within (class_at s class).cols cols)) same test)

pub returns-then-not-has_old_stripe : goal.returns-then-not-has_old_stripe
returns-then-not-has_old_stripe c = λ p e.
    let spec = c.args.accepted.now in
    let n : ℕ = c.loop-edge.edge in
    let test = here spec c.spec-spec.result.now p c.pattern_of-pattern.result n c.class_of.result (c.has_old_stripe.result ≡ true) c.spec-spec.ensures.value c.class_of.ensures.value (c.has_old_stripe.ensures p e) in
    let below : n < length spec.edges =
    omega (arith, c.loop-edge-test.true, ap (λ (l : List Edge). length l) c.list.ensures, ap (λ (s : Spec). length s.edges) c.spec-spec.ensures.value) in
    ((λ h. absurd (false≢true h)), λ k. absurd (false≢true (sym c.if-not-has_old_stripe.true ∙ test.1 (λ m. subst (Within (class_at spec (class_of spec n)).cols) (sym c.pattern_of-pattern.ensures) (k n below m)))))

pub loop-edge-preserved : goal.loop-edge-preserved
loop-edge-preserved c = λ p e.
    let spec = c.args.accepted.now in
    let n : ℕ = c.loop-edge.edge in
    let test = here spec c.spec-spec.result.now p c.pattern_of-pattern.result n c.class_of.result (c.has_old_stripe.result ≡ true) c.spec-spec.ensures.value c.class_of.ensures.value (c.has_old_stripe.ensures p e) in
    below_more (λ k. IsOldThere spec p c.pattern_of-pattern.result k) n (c.loop-edge.invariant p e) (test.0 c.if-not-has_old_stripe.false)

pub returns : goal.returns
returns c = λ p e.
    let spec = c.args.accepted.now in (
      (λ h n l m. subst (Within (class_at spec (class_of spec n)).cols) c.pattern_of-pattern.ensures (c.loop-edge.invariant p e n
          (omega (arith, l, c.loop-edge-test.false, ap (λ (l : List Edge). length l) c.list.ensures, ap (λ (s : Spec). length s.edges) c.spec-spec.ensures.value)) m)),
      λ k. refl,
    )
