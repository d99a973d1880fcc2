-- A row is copied value by value.
use Rattle.std.proofs.Common.{◌≡◌, ℕ, zero, suc, ◌+◌, ◌<◌, ◌≤◌, List, [], ◌∷◌, ◌++◌, length, take, drop, slice_index_or, slice_set, refl, sym, ap, ◌∙◌, arith}
use Rattle.rc_embed.proofs.Imports.{get_or-map, length-map, Pairs, values_of}

over : (xs ys : List ℕ) (k : ℕ) → k < length xs → length xs ≤ length ys
    → slice_set (take k xs ++ drop k ys) k (slice_index_or xs k 0) ≡ take (suc k) xs ++ drop (suc k) ys
over [] ys k below fits = absurd (omega arith)
over (x ∷ xs) [] k below fits = absurd (omega arith)
over (x ∷ xs) (y ∷ ys) zero below fits = refl
over (x ∷ xs) (y ∷ ys) (suc k) below fits = ap (λ (zs : List ℕ). x ∷ zs) (over xs ys k (omega arith) (omega arith))

next : (k : ℕ) → suc k ≡ k + 1
next k = omega arith

-- one value more of a tuple
pub one_more : (t : Pairs) (old new : List ℕ) (k : ℕ) → k < length t → length t ≤ length old → new ≡ take k (values_of t) ++ drop k old
    → slice_set new k (slice_index_or t k (0, 0)).1 ≡ take (k + 1) (values_of t) ++ drop (k + 1) old
one_more t old new k below fits is =
    ap (λ (ys : List ℕ). slice_set ys k (slice_index_or t k (0, 0)).1) is
    ∙ ap (λ (v : ℕ). slice_set (take k (values_of t) ++ drop k old) k v) (sym (get_or-map (λ (p : ℕ × ℕ). p.1) t k (0, 0) 0 below))
    ∙ over (values_of t) old k (let l = length-map t (λ (p : ℕ × ℕ). p.1) in omega arith) (let l = length-map t (λ (p : ℕ × ℕ). p.1) in omega arith)
    ∙ ap (λ (n : ℕ). take n (values_of t) ++ drop n old) (next k)
