-- A pass by the place of the edge that is tried.
use Rattle.std.proofs.Common.{◌≡◌, ℕ, zero, suc, ◌+◌, ◌-◌, ◌<◌, ◌≤◌, Bool, true, false, List, [], ◌∷◌, ◌++◌, length, take, drop, get_or, inl, inr, refl, sym, ap, subst, ◌∙◌, arith, drop-cons, length-append, length-drop}
use Rattle.rc_route.proofs.Imports.{length-take, take_all, onto, IsLeftFrom, onto_onto}

onto_take : (xs ys : List ℕ) (i : ℕ) → i < length xs → onto (take (suc i) xs) ys ≡ get_or xs i 0 ∷ onto (take i xs) ys
onto_take [] ys i l = absurd (omega arith)
onto_take (x ∷ xs) ys zero l = refl
onto_take (x ∷ xs) ys (suc i) l = onto_take xs (x ∷ ys) i (omega arith)

take_front : (xs zs : List ℕ) (j : ℕ) → j ≤ length xs → take j (take j xs ++ zs) ≡ take j xs
take_front xs zs zero l = refl
take_front [] zs (suc j) l = absurd (omega arith)
take_front (x ∷ xs) zs (suc j) l = ap (λ w. x ∷ w) (take_front xs zs j (omega arith))

drop_front : (xs zs : List ℕ) (j : ℕ) → j ≤ length xs → drop j (take j xs ++ zs) ≡ zs
drop_front xs zs zero l = refl
drop_front [] zs (suc j) l = absurd (omega arith)
drop_front (x ∷ xs) zs (suc j) l = drop_front xs zs j (omega arith)

-- what is left where the edges up to a place are still to be tried
abbrev pub IsLeftAt : (List ℕ → Type 0) → List ℕ → ℕ → List ℕ → Type 0
IsLeftAt Good xs i left = IsLeftFrom Good (onto (take i xs) []) (drop i xs) left

step_at : (Good : List ℕ → Type 0) (xs left : List ℕ) (j : ℕ) → j < length xs → IsLeftFrom Good (get_or xs j 0 ∷ onto (take j xs) []) (drop (suc j) xs) left → IsLeftAt Good xs (suc j) left
step_at Good xs left j l h = subst (λ z. IsLeftFrom Good z (drop (suc j) xs) left) (sym (onto_take xs [] j l)) h

round : (xs : List ℕ) (j : ℕ) → take j xs ++ drop (suc j) xs ≡ onto (onto (take j xs) []) (drop (suc j) xs)
round xs j = sym (onto_onto (take j xs) [] (drop (suc j) xs))

pub left_out : (Good : List ℕ → Type 0) (xs ys left : List ℕ) (j : ℕ) → j < length xs → ys ≡ take j xs ++ drop (suc j) xs → Good (take j xs ++ drop (suc j) xs) → IsLeftAt Good ys j left → IsLeftAt Good xs (suc j) left
left_out Good xs ys left j l e g h =
    let front : take j ys ≡ take j xs = ap (take j) e ∙ take_front xs (drop (suc j) xs) j (omega arith) in
    let back : drop j ys ≡ drop (suc j) xs = ap (drop j) e ∙ drop_front xs (drop (suc j) xs) j (omega arith) in
    step_at Good xs left j l
    (inl (subst Good (round xs j) g, subst (λ z. IsLeftFrom Good (onto z []) (drop (suc j) xs) left) front (subst (λ z. IsLeftFrom Good (onto (take j ys) []) z left) back h)))

pub left_kept : (Good : List ℕ → Type 0) (xs left : List ℕ) (j : ℕ) → j < length xs → (Good (take j xs ++ drop (suc j) xs) → ⊥) → IsLeftAt Good xs j left → IsLeftAt Good xs (suc j) left
left_kept Good xs left j l f h =
    step_at Good xs left j l (inr ((λ g. f (subst Good (sym (round xs j)) g)), subst (λ z. IsLeftFrom Good (onto (take j xs) []) z left) (drop-cons xs j 0 l) h))

pub one_up : (i : ℕ) → 0 < i → suc (i - 1) ≡ i
one_up i l = omega arith

-- without one of its elements a list is shorter
pub shorter : (xs ys : List ℕ) (j : ℕ) → j < length xs → ys ≡ take j xs ++ drop (suc j) xs → suc (length ys) ≡ length xs
shorter xs ys j l e = let n : length ys ≡ length (take j xs ++ drop (suc j) xs) = ap length e in
    let m : suc (length (take j xs ++ drop (suc j) xs)) ≡ length xs = simp (length-append, length-take, length-drop) (omega arith) in omega arith

-- the pieces before and behind a place
pub pieces : (xs a b : List ℕ) (j : ℕ) → a ≡ xs → b ≡ xs → take j a ++ take (length b - (j + 1)) (drop (j + 1) b) ≡ take j xs ++ drop (suc j) xs
pieces xs a b j e f =
    ap (λ z. take j a ++ z) (take_all (length b - (j + 1)) (drop (j + 1) b) (omega (arith, length-drop (j + 1) b)))
    ∙ ap (λ z. take j z ++ drop (j + 1) b) e ∙ ap (λ z. take j xs ++ drop (j + 1) z) f ∙ ap (λ z. take j xs ++ drop z xs) (next j)
  where
    next : (j : ℕ) → j + 1 ≡ suc j
    next j = omega arith

-- once an element was left out there are fewer than at first
pub fewer_now : (b : Bool) (n m k : ℕ) → suc n ≡ m → (b ≡ false → m ≡ k) → (b ≡ true → m < k) → n < k
fewer_now true n m k e same less = let l : m < k = less refl in omega arith
fewer_now false n m k e same less = let s : m ≡ k = same refl in omega arith
