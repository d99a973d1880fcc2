-- Distinct numbers below a limit.
use Rattle.std.proofs.Common.{◌≡◌, ℕ, ◌+◌, ◌<◌, ◌≤◌, ◌-◌, List, [], ◌∷◌, length, inl, inr, refl, sym, arith}
use Rattle.rc_work.specs.Imports.{match_ordering, nat_cmp, Ordering, Less, Equal, Greater, In, IsRising, AreDistinct, put, gather, nat_order, in_gather, rising_gather}
use Rattle.std.proofs.lemmas.Cmp.{ranked}

-- a rising list of numbers is as long as its range at most
length-rising-le : (low high : ℕ) (xs : List ℕ) → IsRising nat_cmp xs
    → ((x : ℕ) → In x xs → low ≤ x) → ((x : ℕ) → In x xs → x < high)
    → length xs ≤ high - low
length-rising-le low high [] rising above below = omega arith
length-rising-le low high (x ∷ xs) rising above below =
    let rest = length-rising-le (x + 1) high xs rising.1
    (λ y m. let l : x < y = ranked x y Less (sym (rising.0 y m)) in omega arith)
    (λ y m. below y (inr m)) in
    omega (arith, rest, above x (inl refl), below x (inl refl))

length-put-new : (x : ℕ) (ys : List ℕ) → (In x ys → ⊥) → length (put nat_cmp x ys) ≡ length ys + 1
length-put-new x [] new = refl
length-put-new x (y ∷ ys) new = go (nat_cmp x y) refl (length-put-new x ys (λ m. new (inr m)))
  where
    go : (a : Ordering) → nat_cmp x y ≡ a → length (put nat_cmp x ys) ≡ length ys + 1
        → length (match_ordering a (x ∷ (y ∷ ys)) (y ∷ ys) (y ∷ put nat_cmp x ys))
        ≡ length (y ∷ ys) + 1
    go Less e h = omega arith
    go Equal e h = absurd (new (inl (nat_order.ties x y e)))
    go Greater e h = omega arith

length-gather-distinct : (xs : List ℕ) → AreDistinct xs → length (gather nat_cmp xs) ≡ length xs
length-gather-distinct [] distinct = refl
length-gather-distinct (x ∷ xs) distinct =
    omega (
      arith,
      length-put-new x (gather nat_cmp xs) (λ m. distinct.0 (in_gather nat_cmp nat_order x xs m)),
      length-gather-distinct xs distinct.1,
    )

pub length-distinct-le : (limit : ℕ) (xs : List ℕ) → AreDistinct xs → ((x : ℕ) → In x xs → x < limit)
    → length xs ≤ limit
length-distinct-le limit xs distinct below =
    omega (
      arith,
      length-rising-le 0 limit (gather nat_cmp xs) (rising_gather nat_cmp nat_order xs)
          (λ x m. omega arith) (λ x m. below x (in_gather nat_cmp nat_order x xs m)),
      length-gather-distinct xs distinct,
    )
