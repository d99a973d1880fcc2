-- The places of own entries.
use Rattle.std.proofs.Common.{◌≡◌, ℕ, zero, suc, ◌+◌, Bool, true, false, cond, eqb, List, [], ◌∷◌, ◌++◌, Some, map, refl, sym, ap, subst, ◌∙◌, inl, inr, arith}
use Rattle.rc_journal.specs.Imports.{flat_map, range_with_len, slice_get, In, AreDistinct, in_map, in_append, in_flat_map, in_range_bounds, Entry, Placed, own_placed, placed, placed_from, stands_from, own_stands}
use Rattle.std.proofs.lemmas.List.{map-append}

places_above : (n : ℕ) (history : List Entry) (pass : ℕ) → In n (map (λ (w : Placed). w.place) (placed_from (n + 1) history pass)) → ⊥
places_above n history pass m =
    let w = in_map (λ (w : Placed). w.place) n (placed_from (n + 1) history pass) m in
    let s = stands_from (n + 1) history pass w.0 w.1 in
    absurd (omega (arith, s.1, w.2))

distinct_from : (n : ℕ) (history : List Entry) (pass : ℕ) → AreDistinct (map (λ (w : Placed). w.place) (placed_from n history pass))
distinct_from n [] pass = tt
distinct_from n (e ∷ history) pass = go (eqb e.pass pass) (distinct_from (n + 1) history pass)
  where
    go : (b : Bool) → AreDistinct (map (λ (w : Placed). w.place) (placed_from (n + 1) history pass))
        → AreDistinct (map (λ (w : Placed). w.place) (cond b (placed n e ∷ placed_from (n + 1) history pass) (placed_from (n + 1) history pass)))
    go true ih = (places_above n history pass, ih)
    go false ih = ih

distinct_append : (xs ys : List ℕ) → AreDistinct xs → AreDistinct ys → ((i : ℕ) → In i xs → In i ys → ⊥) → AreDistinct (xs ++ ys)
distinct_append [] ys h k apart = k
distinct_append (x ∷ xs) ys h k apart = (
  λ m. elim (in_append x xs ys m) [ inl p ↦ h.0 p | inr p ↦ apart x (inl refl) p ],
  distinct_append xs ys h.1 k (λ i p q. apart i (inr p) q),
)

-- the places of the own entries of some passes
abbrev pub own_places : List Entry → List ℕ → List ℕ
own_places history passes = map (λ w. w.place) (flat_map (own_placed history) passes)

-- one place has one pass
one_pass : (history : List Entry) (pass : ℕ) (passes : List ℕ) (i : ℕ) → In i (map (λ (w : Placed). w.place) (own_placed history pass))
    → In i (own_places history passes) → In pass passes
one_pass history pass passes i m n =
    let u = in_map (λ (w : Placed). w.place) i (own_placed history pass) m in
    let v = in_map (λ (w : Placed). w.place) i (flat_map (own_placed history) passes) n in
    let other = in_flat_map (own_placed history) v.0 passes v.1 in
    let here = (own_stands history pass u.0).0 u.1 in
    let there = (own_stands history other.0 v.0).0 other.2 in
    let at : u.0.place ≡ v.0.place = sym u.2 ∙ v.2 in
    let found : Some u.0.entry ≡ Some v.0.entry = sym here.0 ∙ ap (slice_get history) at ∙ there.0 in
    let same : u.0.entry ≡ v.0.entry = cc in
    let pass_is : other.0 ≡ pass = sym there.1 ∙ ap (λ (e : Entry). e.pass) (sym same) ∙ here.1 in
    subst (λ k. In k passes) pass_is other.1

pub distinct_places : (history : List Entry) (passes : List ℕ) → AreDistinct passes → AreDistinct (own_places history passes)
distinct_places history [] d = tt
distinct_places history (pass ∷ passes) d =
    subst AreDistinct (sym (map-append (λ (w : Placed). w.place) (own_placed history pass) (flat_map (own_placed history) passes)))
    (distinct_append (map (λ (w : Placed). w.place) (own_placed history pass)) (own_places history passes) (distinct_from 0 history pass)
    (distinct_places history passes d.1) (λ i m n. d.0 (one_pass history pass passes i m n)))

-- ---- numbers from some number on

pub distinct_range : (a n : ℕ) → AreDistinct (range_with_len a n)
distinct_range a zero = tt
distinct_range a (suc n) = ((λ m. let h = in_range_bounds (a + 1) n a m in absurd (omega (arith, h.0))), distinct_range (a + 1) n)
