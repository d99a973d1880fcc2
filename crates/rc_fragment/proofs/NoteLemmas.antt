-- How many values a row has, and for how many notes there is room.
use Rattle.std.specs.Prelude.{◌≡◌, ℕ, suc, ◌+◌, ◌-◌, ◌*◌, ◌/◌, ◌<◌, ◌≤◌, Bool, true, false, cond, List, [], ◌∷◌, length, map, min}
use Rattle.rc_fragment.proofs.Imports.{Less, nat_cmp, refl, inl, inr, arith, length-map, nat_tests, min-le_left, min-le_right, div-mul-le_self, In, IsRising, in_map, in_has, has, union, in_minus, union_left, union_right, Pairs, IsTuple, cols_of, project, IsParted, extra_columns, values_at, EdgeShape}

-- ---- a tuple has at most 32 pairs

pub less_lt : (a b : ℕ) → nat_cmp a b ≡ Less → a < b
less_lt a b h = grind (arith, nat_tests, h)

-- a rising list of numbers from a on, all below n, has at most n - a of them
few_between : (n a : ℕ) (xs : List ℕ) → IsRising nat_cmp xs → ((c : ℕ) → In c xs → (a ≤ c) × (c < n)) → length xs ≤ n - a
few_between n a [] r h = omega arith
few_between n a (x ∷ xs) r h =
    let b : (a ≤ x) × (x < n) = h x (inl refl) in
    let ih : length xs ≤ n - suc x = few_between n (suc x) xs r.1 (λ c m. let l : x < c = less_lt x c (r.0 c m) in (omega arith, (h c (inr m)).1)) in
    omega (arith, b.0, b.1)

pub few_pairs : (t : Pairs) → IsTuple t → length t ≤ 32
few_pairs t i =
    let f : length (cols_of t) ≤ 32 - 0 = few_between 32 0 (cols_of t) i.rising (λ c m.
    let p : (p : ℕ × ℕ) × In p t × (c ≡ p.0) = in_map (λ (q : ℕ × ℕ). q.0) c t m in
    let l : p.0.0 < 32 = i.columns p.0 p.1 in
    let e : c ≡ p.0.0 = p.2 in (omega arith, omega arith)) in
    let e : length (cols_of t) ≡ length t = length-map t (λ (p : ℕ × ℕ). p.0) in
    omega arith

-- ---- the values of a row at sets of columns that have none in common

-- how many values the pair adds at the columns
abbrev pub at_pair : Bool → ℕ
at_pair b = cond b 1 0

count_more : (cols : List ℕ) (p : ℕ × ℕ) (t : Pairs) → length (values_at cols (p ∷ t)) ≡ at_pair (has cols p.0) + length (values_at cols t)
count_more cols p t = go (has cols p.0)
  where
    go : (b : Bool) → length (map (λ (q : ℕ × ℕ). q.1) (cond b (p ∷ project cols t) (project cols t))) ≡ at_pair b + length (values_at cols t)
    go true = omega arith
    go false = omega arith

pub values_shorter : (cols : List ℕ) (t : Pairs) → length (values_at cols t) ≤ length t
values_shorter cols [] = omega arith
values_shorter cols (p ∷ t) = omega (arith, count_more cols p t, at_most (has cols p.0), values_shorter cols t)
  where
    at_most : (b : Bool) → at_pair b ≤ 1
    at_most true = omega arith
    at_most false = omega arith

-- at most one of the sets has a column
abbrev pub AreDisjoint : List ℕ → List ℕ → List ℕ → Type 0
AreDisjoint xs ys zs = (c : ℕ) → at_pair (has xs c) + at_pair (has ys c) + at_pair (has zs c) ≤ 1

pub parted_columns : (shape : EdgeShape) → IsParted shape → AreDisjoint shape.source shape.key (extra_columns shape)
parted_columns shape parted c = go (has shape.source c) (has shape.key c) (has (extra_columns shape) c) refl refl refl
  where
    both : has shape.source c ≡ true → has shape.key c ≡ true → ⊥
    both s k = parted.apart c (in_has shape.key c k) (in_has shape.source c s)

    other : has (extra_columns shape) c ≡ true → In c (union shape.source shape.key) → ⊥
    other x = (in_minus shape.target (union shape.source shape.key) c (in_has (extra_columns shape) c x)).1

    go : (s k x : Bool) → has shape.source c ≡ s → has shape.key c ≡ k → has (extra_columns shape) c ≡ x → at_pair s + at_pair k + at_pair x ≤ 1
    go true true x e f g = absurd (both e f)
    go true false true e f g = absurd (other g (union_left shape.source shape.key c (in_has shape.source c e)))
    go true false false e f g = omega arith
    go false true true e f g = absurd (other g (union_right shape.source shape.key c (in_has shape.key c f)))
    go false true false e f g = omega arith
    go false false true e f g = omega arith
    go false false false e f g = omega arith

-- ---- room

pub room_some : (a b : ℕ) → 0 < min a (b / 32) → (0 < a) × (32 ≤ b)
room_some a b h =
    let l : min a (b / 32) ≤ a = min-le_left a (b / 32) in
    let r : min a (b / 32) ≤ b / 32 = min-le_right a (b / 32) in
    let d : b / 32 * 32 ≤ b = div-mul-le_self b 32 in
    (omega arith, omega arith)

pub zero_least : (n : ℕ) → 0 ≤ n
zero_least n = omega arith
