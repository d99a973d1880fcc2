-- The start is a good state.
use Rattle.std.proofs.Common.{◌≡◌, ℕ, zero, suc, ◌+◌, ◌≤◌, [], map, length, Some, sym, refl, ap, ◌∙◌, subst, arith}
use Rattle.rc_core.specs.Imports.{slice_get, range_with_len, replicate, empty_law, stripe_total, SpecWithPlans, has}
use Rattle.std.proofs.lemmas.List.{length-map, length-replicate}
use Rattle.std.proofs.lemmas.List.FromFn.{length-range_with_len}
use Rattle.rc_core.specs.declared.state.PassState.{PassState}
use Rattle.rc_core.specs.declared.state.StripeState.{StripeState}
use Rattle.rc_core.specs.State.{is_writer, no_stripe, stripe_at, fresh}
use Rattle.rc_core.specs.Events.{start}
use Rattle.rc_core.specs.Good.{IsGoodPass, IsGoodStripe, IsGood}

all_fresh : (a n k : ℕ) (u : PassState) → slice_get (map fresh (range_with_len a n)) k ≡ Some u → u ≡ fresh (a + k)
all_fresh a zero k u e = cc
all_fresh a (suc n) zero u e = let f : fresh a ≡ u = cc in sym f ∙ ap fresh (omega arith)
all_fresh a (suc n) (suc k) u e = all_fresh (a + 1) n k u e ∙ ap fresh (omega arith)

unlocked_at : (n p : ℕ) → stripe_at (replicate n no_stripe) p ≡ no_stripe
unlocked_at zero p = refl
unlocked_at (suc n) zero = refl
unlocked_at (suc n) (suc p) = unlocked_at n p

module _ (compiled : SpecWithPlans) (passes : ℕ) where
  fresh_is_good : (k : ℕ) → IsGoodPass compiled.spec [] (replicate (stripe_total compiled.spec) no_stripe) k (fresh k)
  fresh_is_good k = record {
    number = refl;
    writes = λ p. sym (ap (λ (s : StripeState). is_writer s.keeper k) (unlocked_at (stripe_total compiled.spec) p));
    counts = λ p. sym (ap (λ (s : StripeState). has s.counted k) (unlocked_at (stripe_total compiled.spec) p));
    beside = λ p m. absurd m;
    rows = λ h m. absurd m;
    own = refl;
    few = omega arith;
    seen = omega arith;
    sees_own = λ x m. absurd m;
    wish = λ p e. cc;
    turning = λ p e. cc;
  }

  pub start_is_good : 1 ≤ passes → passes ≤ 255 → IsGood compiled.spec (start compiled passes)
  start_is_good some few =
      let count : length (map fresh (range_with_len 0 passes)) ≡ passes = length-map (range_with_len 0 passes) fresh ∙ length-range_with_len 0 passes in
      record {
        passes = λ k u e. subst (IsGoodPass compiled.spec [] (replicate (stripe_total compiled.spec) no_stripe) k) (sym (all_fresh 0 passes k u e ∙ ap fresh (omega arith))) (fresh_is_good k);
        stripes = λ p lt. subst (IsGoodStripe compiled.spec [] (length (map fresh (range_with_len 0 passes))) p) (sym (unlocked_at (stripe_total compiled.spec) p))
            (record { keeper = sym (empty_law compiled.spec p); rising = tt; known = λ k m. absurd m });
        history = record { legal = tt; fit = tt; numbered = λ pass. refl; entries = λ e m. absurd m };
        some_pass = subst (λ n. 1 ≤ n) (sym count) some;
        few_passes = subst (λ n. n ≤ 255) (sym count) few;
        all_stripes = length-replicate (stripe_total compiled.spec) no_stripe;
      }
