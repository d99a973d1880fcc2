-- How far the first elements of a list that pass a test reach.
use Rattle.std.specs.Prelude.{◌≡◌, ℕ, ◌<◌, ◌≤◌, ◌&&◌, Bool, true, false, List, [], ◌∷◌, length, take}
use Rattle.rc_plan.proofs.Imports.{list_all, false≢true}
use Rattle.std.proofs.Common.{zero, suc, get_or, refl, sym, ap, ◌∙◌, arith}

both : (a b : Bool) → (a && b) ≡ true → (a ≡ true) × (b ≡ true)
both true b e = (refl, e)
both false b e = absurd (false≢true e)

module _ {X : Type 0} (p : X → Bool) where
  -- they end where one does not pass
  pub ends_at : (xs : List X) (n i : ℕ) (d : X) → i < length xs → list_all p (take n xs) ≡ true → p (get_or xs i d) ≡ false → n ≤ i
  ends_at xs zero i d within all fails = omega arith
  ends_at [] (suc n) i d within all fails = omega (arith, within)
  ends_at (x ∷ xs) (suc n) zero d within all fails = absurd (false≢true (sym fails ∙ (both (p x) (list_all p (take n xs)) all).0))
  ends_at (x ∷ xs) (suc n) (suc i) d within all fails =
      let rest : n ≤ i = ends_at xs n i d (omega (arith, within)) (both (p x) (list_all p (take n xs)) all).1 fails in
      omega (arith, rest)

-- what passes one test passes another
pub all_pass : {X : Type 0} (p q : X → Bool) → ((x : X) → p x ≡ true → q x ≡ true) → (xs : List X) → list_all p xs ≡ true → list_all q xs ≡ true
all_pass p q f [] e = refl
all_pass p q f (x ∷ xs) e =
    let parts = both (p x) (list_all p xs) e in
    ap (λ b. b && list_all q xs) (f x parts.0) ∙ all_pass p q f xs parts.1
