-- What a query answers from rows that rise.
use Rattle.std.specs.Prelude.{◌≡◌, ℕ, zero, suc, ◌+◌, ◌<◌, ◌≤◌, ◌==◌, Bool, true, false, List, [], ◌∷◌, cond, filter, get_or, length}
use Rattle.rc_machine.proofs.Imports.{Ordering, Less, eqb-true, le-leb, leb-true, IsRising, IsOrder, Pairs, in_ranges, Rows, Many, at_most, rising_behind}
use Rattle.std.proofs.Common.{arith, ap, inl, leb, refl, subst, sym, ◌∙◌}

-- a list in which each is below the next rises
module _ {A : Type 0} (R : A → A → Ordering) (o : IsOrder R) (d : A) where
  pub rising_by_steps : (xs : List A) → ((i : ℕ) → i + 1 < length xs → R (get_or xs i d) (get_or xs (i + 1) d) ≡ Less) → IsRising R xs
  rising_by_steps [] steps = tt
  rising_by_steps (x ∷ []) steps = ((λ y m. absurd m), tt)
  rising_by_steps (x ∷ y ∷ xs) steps =
      rising_behind R o x y xs (steps 0 (omega arith))
      (rising_by_steps (y ∷ xs) (λ i l. let e : suc i + 1 ≡ suc (i + 1) = omega arith in subst (λ k. R (get_or (y ∷ xs) i d) (get_or (x ∷ y ∷ xs) k d) ≡ Less) e (steps (suc i) (omega (arith, l)))))

-- and in one that rises each is below the next
module _ {A : Type 0} (R : A → A → Ordering) (d : A) where
  pub steps_rise : (xs : List A) → IsRising R xs → (i : ℕ) → i + 1 < length xs → R (get_or xs i d) (get_or xs (i + 1) d) ≡ Less
  steps_rise [] r i l = absurd (omega (arith, l))
  steps_rise (x ∷ []) r i l = absurd (omega (arith, l))
  steps_rise (x ∷ y ∷ xs) r zero l = r.0 y (inl refl)
  steps_rise (x ∷ y ∷ xs) r (suc i) l =
      let e : suc i + 1 ≡ suc (i + 1) = omega arith in
      subst (λ k. R (get_or (y ∷ xs) i d) (get_or (x ∷ y ∷ xs) k d) ≡ Less) (sym e) (steps_rise (y ∷ xs) r.1 i (omega (arith, l)))

pub few_rows : (most : ℕ) (rows : List (List ℕ)) → length rows ≤ most → at_most most rows ≡ Rows rows
few_rows most rows l = ap (λ b. cond b (Rows rows) (Many (length rows))) (le-leb (length rows) most l)

pub many_rows : (most : ℕ) (rows : List (List ℕ)) → most < length rows → at_most most rows ≡ Many (length rows)
many_rows most rows l = go (leb (length rows) most) refl
  where
    go : (b : Bool) → leb (length rows) most ≡ b → cond b (Rows rows) (Many (length rows)) ≡ Many (length rows)
    go true e = let m = leb-true (length rows) most e in absurd (omega (arith, l, m))
    go false e = refl

pub nothing : {A : Type 0} (xs : List A) (b : Bool) → b ≡ (length xs == 0) → b ≡ true → xs ≡ []
nothing [] b e t = refl
nothing (x ∷ xs) b e t = absurd (let n : length (x ∷ xs) ≡ 0 = eqb-true (length (x ∷ xs)) 0 (sym e ∙ t) in omega (arith, n))

-- without bounds each tuple is between them
pub none_outside : (ts : List Pairs) → filter (in_ranges []) ts ≡ ts
none_outside [] = refl
none_outside (t ∷ ts) = ap (λ z. t ∷ z) (none_outside ts)
