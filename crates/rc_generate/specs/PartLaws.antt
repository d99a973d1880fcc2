-- Lists whose parts are equal, where a number of each element says of which part it is.
use Rattle.std.proofs.Common.{◌≡◌, ℕ, ◌==◌, Bool, true, false, cond, List, [], ◌∷◌, ◌++◌, IsPermutation, refl, sym, ap, ◌∙◌, subst}
use Rattle.std.specs.List.{filter}
use Rattle.std.proofs.lemmas.Bool.{eqb-true, eq-eqb}
use Rattle.std.proofs.lemmas.List.Elements.{filter-append}
use Rattle.std.proofs.lemmas.List.Sorted.{IsPermutation-refl, IsPermutation-trans, IsPermutation-sym, IsPermutation-cons, IsPermutation-middle}

-- what stands before the first element that passes a filter, and behind it
first_that_passes : {A : Type 0} (q : A → Bool) (ys : List A) (x : A) (zs : List A) → x ∷ zs ≡ filter q ys → (us : List A) × (vs : List A) × (ys ≡ us ++ x ∷ vs) × (filter q us ≡ [])
first_that_passes q [] x zs e = absurd cc
first_that_passes {A} q (y ∷ ys) x zs e = go (q y) refl e (first_that_passes q ys x zs)
  where
    go : (b : Bool) → q y ≡ b → x ∷ zs ≡ cond b (y ∷ filter q ys) (filter q ys) → (x ∷ zs ≡ filter q ys → (us : List A) × (vs : List A) × (ys ≡ us ++ x ∷ vs) × (filter q us ≡ []))
        → (us : List A) × (vs : List A) × (y ∷ ys ≡ us ++ x ∷ vs) × (filter q us ≡ [])
    go true f k ih = let same : y ≡ x = cc in ([], ys, ap (λ w. w ∷ ys) same, refl)
    go false f k ih =
        let r = ih k in
        (y ∷ r.0, r.1, ap (λ l. y ∷ l) r.2, ap (λ b. cond b (y ∷ filter q r.0) (filter q r.0)) f ∙ r.3)

-- lists whose elements of each number are the same, in order, have the same elements
pub permutation_from_parts : {A : Type 0} (g : A → ℕ) (xs ys : List A) → ((n : ℕ) → filter (λ x. g x == n) xs ≡ filter (λ x. g x == n) ys) → IsPermutation xs ys
permutation_from_parts g [] [] h = IsPermutation-refl []
permutation_from_parts {A} g [] (y ∷ ys) h =
    let q : A → Bool = λ x. g x == g y in
    let e : [] ≡ y ∷ filter q ys = h (g y) ∙ ap (λ b. cond b (y ∷ filter q ys) (filter q ys)) (eq-eqb (g y) (g y) refl) in absurd cc
permutation_from_parts {A} g (x ∷ xs) ys h =
    IsPermutation-trans (x ∷ xs) (x ∷ (us ++ vs)) ys (IsPermutation-cons x xs (us ++ vs) (permutation_from_parts g xs (us ++ vs) rest))
    (subst (IsPermutation (x ∷ (us ++ vs))) (sym split.2) (IsPermutation-sym (us ++ x ∷ vs) (x ∷ (us ++ vs)) (IsPermutation-middle us x vs)))
  where
    q : ℕ → A → Bool
    q n z = g z == n

    split : (us : List A) × (vs : List A) × (ys ≡ us ++ x ∷ vs) × (filter (q (g x)) us ≡ [])
    split = first_that_passes (q (g x)) ys x (filter (q (g x)) xs)
        (sym (ap (λ b. cond b (x ∷ filter (q (g x)) xs) (filter (q (g x)) xs)) (eq-eqb (g x) (g x) refl)) ∙ h (g x))

    us : List A
    us = split.0

    vs : List A
    vs = split.1

    parted : (n : ℕ) → filter (q n) (x ∷ xs) ≡ filter (q n) us ++ filter (q n) (x ∷ vs)
    parted n = h n ∙ ap (filter (q n)) split.2 ∙ filter-append (q n) us (x ∷ vs)

    go : (n : ℕ) (b : Bool) → q n x ≡ b → cond b (x ∷ filter (q n) xs) (filter (q n) xs) ≡ filter (q n) us ++ cond b (x ∷ filter (q n) vs) (filter (q n) vs)
        → filter (q n) xs ≡ filter (q n) us ++ filter (q n) vs
    go n true e k =
        let none : filter (q n) us ≡ [] = subst (λ m. filter (q m) us ≡ []) (eqb-true (g x) n e) split.3 in
        let first : x ∷ filter (q n) xs ≡ x ∷ filter (q n) vs = k ∙ ap (λ l. l ++ x ∷ filter (q n) vs) none in
        let tails : filter (q n) xs ≡ filter (q n) vs = cc in
        tails ∙ sym (ap (λ l. l ++ filter (q n) vs) none)
    go n false e k = k

    rest : (n : ℕ) → filter (q n) xs ≡ filter (q n) (us ++ vs)
    rest n = go n (q n x) refl (parted n) ∙ sym (filter-append (q n) us vs)
