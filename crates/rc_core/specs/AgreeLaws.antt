-- What a pass has agrees with what the stripes and the history have.
use Rattle.std.proofs.Common.{◌≡◌, ℕ, zero, suc, ◌<◌, true, false, List, [], ◌∷◌, map, length, Some, sym, refl, ap, ◌∙◌, arith}
use Rattle.rc_core.specs.Imports.{slice_get, In, has_in, in_has, has, Shared, Spec, Placed, placed_own}
use Rattle.std.proofs.lemmas.Bool.{false≢true, eq-eqb, eqb-true}
use Rattle.rc_core.specs.declared.state.PassState.{PassState}
use Rattle.rc_core.specs.declared.state.Keeper.{Keeper}
use Rattle.rc_core.specs.declared.state.Keeper.TheVariants.{Home, Writer}
use Rattle.rc_core.specs.declared.state.StripeState.{StripeState}
use Rattle.rc_core.specs.declared.state.CoreState.{CoreState}
use Rattle.rc_core.specs.State.{has_writer, is_writer, stripe_at, shares_of}
use Rattle.rc_core.specs.Good.{IsGoodPass, IsGoodKeeper, IsGood}
use Rattle.rc_core.specs.Laws.{SharesAreHome, OwnAreOfHistory}
use Rattle.rc_core.specs.KeepsLaws.{shares_count}
use Rattle.rc_core.specs.ListLaws.{stripes_in_have}
use Rattle.rc_core.specs.Passes.{IsHigh}
use Rattle.rc_core.specs.KeepsLaws.{above_itself, shares_held, at_itself}
use Rattle.rc_core.specs.ListLaws.{not_has}
use Rattle.std.proofs.lemmas.Bool.{or_right}
use Rattle.rc_core.specs.State.{is_at, counts_at}
use Rattle.std.proofs.Common.{◌||◌}

counted_there : (stripes : List StripeState) (p k : ℕ) → has (stripe_at stripes p).counted k ≡ true → p < length stripes
counted_there [] p k e = absurd (false≢true e)
counted_there (s ∷ stripes) zero k e = omega arith
counted_there (s ∷ stripes) (suc p) k e = let l = counted_there stripes p k e in omega arith

pub shares_law : SharesAreHome
shares_law spec c good k u at h m shared = go (stripe_at c.stripes h.stripe).keeper refl (g.beside h.stripe there) (good.stripes h.stripe inside).keeper
  where
    g : IsGoodPass spec c.history c.stripes k u
    g = good.passes k u at

    there : In h.stripe (shares_of u)
    there = stripes_in_have Shared h u.held m shared

    inside : h.stripe < length c.stripes
    inside = counted_there c.stripes h.stripe k (sym (g.counts h.stripe) ∙ shares_count u h.stripe there)

    go : (x : Keeper) → (stripe_at c.stripes h.stripe).keeper ≡ x → has_writer x ≡ false → IsGoodKeeper spec c.history (length c.passes) h.stripe x → x ≡ Home h.rows
    go (Home rows) is free q = ap Home (q ∙ sym (g.rows h m))
    go (Writer j) is free q = cc

pub own_law : OwnAreOfHistory
own_law spec c good k u at = ap (map (λ (x : Placed). x.entry)) (good.passes k u at).own ∙ placed_own 0 c.history k

-- ---- where a pass is counted in, and what it writes

pub writer_of_pass : (x : Keeper) (k : ℕ) → is_writer x k ≡ true → x ≡ Writer k
writer_of_pass (Home rows) k e = absurd (false≢true e)
writer_of_pass (Writer j) k e = ap Writer (eqb-true j k e)

module _ (spec : Spec) (c : CoreState) (good : IsGood spec c) (p : ℕ) (k : ℕ) (u : PassState) (at : slice_get c.passes k ≡ Some u) where
  -- a pass for which the stripe is high isn't counted in there
  pub high_uncounted : IsHigh u p → In k (stripe_at c.stripes p).counted → ⊥
  high_uncounted high m = false≢true (sym none ∙ (good.passes k u at).counts p ∙ has_in (stripe_at c.stripes p).counted k m)
    where
      none : counts_at u p ≡ false
      none = ap (λ b. b || is_at u.turning p) (not_has (shares_of u) p (λ x. above_itself u p high.above (shares_held u p x))) ∙ at_itself u.turning p high.ahead

  pub turning_counted : u.turning ≡ Some p → In k (stripe_at c.stripes p).counted
  turning_counted turns =
      in_has (stripe_at c.stripes p).counted k (sym ((good.passes k u at).counts p) ∙ or_right (has (shares_of u) p) (is_at u.turning p) (ap (λ o. is_at o p) turns ∙ eq-eqb p p refl))

  pub sharing_counted : In p (shares_of u) → In k (stripe_at c.stripes p).counted
  sharing_counted m = in_has (stripe_at c.stripes p).counted k (sym ((good.passes k u at).counts p) ∙ shares_count u p m)
