-- A pass while it waits.
use Rattle.std.proofs.Common.{◌≡◌, ℕ, suc, ◌+◌, arith, Option, Some, None, sym, refl, ap, ◌∙◌, subst}
use Rattle.rc_row.proofs.Imports.{IfSome, Found, Mode, IsAbove, Standing, HasWaited, PassSeen, core_of, waited_so, with_standing, KeepsOut, turned_away, wish_after}

pub waited_first : (mode : Mode) (passes p : ℕ) (old : PassSeen) → HasWaited mode passes p old old
waited_first mode passes p old = record { steps = None; is = refl; found = tt }

-- one step more
abbrev one_more : Option (ℕ × Found) → Found → Option (ℕ × Found)
one_more None found = Some (0, found)
one_more (Some (n, x)) found = Some (suc n, found)

same_number : (mode : Mode) (s : Standing) (p : ℕ) (steps : Option (ℕ × Found)) → (waited_so mode s p steps).core.number ≡ s.core.number
same_number mode s p None = refl
same_number mode s p (Some (n, x)) = refl

abbrev so_many : Mode → Standing → ℕ → ℕ → Found → Standing
so_many mode s p r found = record s {
  core = record s.core { wish = wish_after found p };
  refusals = suc r;
  last_refusal = Some (record { stripe = p; mode = mode; found = found; held = s.core.held });
}

turned_more : (mode : Mode) (s : Standing) (p : ℕ) (steps : Option (ℕ × Found)) (found : Found) → turned_away mode (waited_so mode s p steps) p found ≡ waited_so mode s p (one_more steps found)
turned_more mode s p None found = let e : s.refusals ≡ 0 + s.refusals = omega arith in ap (λ (r : ℕ). so_many mode s p r found) e
turned_more mode s p (Some (n, x)) found = let e : suc (n + s.refusals) ≡ suc n + s.refusals = omega arith in ap (λ (r : ℕ). so_many mode s p r found) e

some_found : (steps : Option (ℕ × Found)) (found : Found) (F : Found → Type 0) → F found → IfSome (one_more steps found) (λ x. F x.1)
some_found None found F f = f
some_found (Some (n, x)) found F f = f

module _ (mode : Mode) (passes p : ℕ) (old mid new : PassSeen) (h : HasWaited mode passes p old mid) where
  pub waited_above : (q : ℕ) → IsAbove (core_of old) q → IsAbove (core_of mid) q
  waited_above q above = subst (λ (s : PassSeen). IsAbove (core_of s) q) (sym h.is) (go h.steps)
    where
      go : (steps : Option (ℕ × Found)) → IsAbove (waited_so mode old.standing p steps).core q
      go None = above
      go (Some (n, x)) = above

  pub waited_number : (core_of mid).number ≡ (core_of old).number
  waited_number = ap (λ (s : PassSeen). (core_of s).number) h.is ∙ same_number mode old.standing p h.steps

  -- one refused step more
  pub waited_more : (found : Found) → KeepsOut mode passes (core_of mid).number found → new ≡ with_standing (turned_away mode mid.standing p found) mid → HasWaited mode passes p old new
  waited_more found out e = record {
    steps = one_more h.steps found;
    is = e ∙ (λ i. with_standing (turned_away mode (h.is i).standing p found) (h.is i)) ∙ ap (λ (t : Standing). with_standing t old) (turned_more mode old.standing p h.steps found);
    found = some_found h.steps found (KeepsOut mode passes (core_of old).number) (subst (λ n. KeepsOut mode passes n found) waited_number out);
  }
