-- The values that a row is picked from, at columns that stand first.
use Rattle.std.specs.Prelude.{◌≡◌, ℕ, ◌++◌, Bool, List, [], ◌∷◌, Some, if◌then◌else◌, length, unwrap_or}
use Rattle.rc_machine.proofs.Imports.{zip, eq-eqb, ne_eqb, nat_cmp, In, IsRising, nat_order, not_below_itself, Pairs, get, pick, value}
use Rattle.std.proofs.Common.{inl, inr, refl, ap, ◌∙◌, arith}

-- a pair at another column is of no matter
value_behind : (c v : ℕ) (t : Pairs) (k : ℕ) → (c ≡ k → ⊥) → value ((c, v) ∷ t) k ≡ value t k
value_behind c v t k other = ap (λ (b : Bool). unwrap_or (if b then Some v else get t k) 0) (ne_eqb c k other)

pick_behind : (c v : ℕ) (t : Pairs) (cols : List ℕ) → (In c cols → ⊥) → pick cols ((c, v) ∷ t) ≡ pick cols t
pick_behind c v t [] out = refl
pick_behind c v t (k ∷ cols) out =
    (λ i. value_behind c v t k (λ e. out (inl e)) i ∷ pick_behind c v t cols (λ m. out (inr m)) i)

-- at columns that stand first these are their values
pub pick_zip : (cols values : List ℕ) (rest : Pairs) → IsRising nat_cmp cols → length values ≡ length cols
    → pick cols (zip cols values ++ rest) ≡ values
pick_zip [] [] rest rising e = refl
pick_zip [] (v ∷ values) rest rising e = absurd (omega (arith, e))
pick_zip (c ∷ cols) [] rest rising e = absurd (omega (arith, e))
pick_zip (c ∷ cols) (v ∷ values) rest rising e =
    (λ i. here i ∷ (behind ∙ pick_zip cols values rest rising.1 (omega (arith, e))) i)
  where
    here : value ((c, v) ∷ (zip cols values ++ rest)) c ≡ v
    here = ap (λ (b : Bool). unwrap_or (if b then Some v else get (zip cols values ++ rest) c) 0) (eq-eqb c c refl)

    behind : pick cols ((c, v) ∷ (zip cols values ++ rest)) ≡ pick cols (zip cols values ++ rest)
    behind = pick_behind c v (zip cols values ++ rest) cols (λ m. not_below_itself nat_cmp nat_order c c (rising.0 c m) (rising.0 c m))
