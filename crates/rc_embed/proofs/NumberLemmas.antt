-- Passes by their numbers.
use Rattle.std.proofs.Common.{◌≡◌, ℕ, zero, suc, ◌+◌, ◌<◌, List, [], ◌∷◌, ◌++◌, length, map}
use Rattle.std.proofs.Common.{take, drop, get_or, All, refl, sym, ap, ◌∙◌, arith}
use Rattle.rc_embed.proofs.Imports.{range_with_len, get_or-map, length-map, take_more, get_or-range_with_len, length-range_with_len, PassSeen, number_of}

next : (k : ℕ) → suc k ≡ k + 1
next k = omega arith

zero_more : (k : ℕ) → k ≡ 0 + k
zero_more k = omega arith

-- a number more
more : (a n : ℕ) → range_with_len a (suc n) ≡ range_with_len a n ++ (a + n) ∷ []
more a zero = ap (λ (k : ℕ). k ∷ []) (omega arith)
more a (suc n) =
    ap (λ (ks : List ℕ). a ∷ ks) (more (a + 1) n)
    ∙ ap (λ (k : ℕ). a ∷ (range_with_len (a + 1) n ++ k ∷ [])) (omega arith)

map_more : (passes others : List PassSeen)
    → map number_of (passes ++ others) ≡ map number_of passes ++ map number_of others
map_more [] others = refl
map_more (pass ∷ passes) others =
    ap (λ (ks : List ℕ). number_of pass ∷ ks) (map_more passes others)

-- a pass more, with the next number
pub one_more : (passes : List PassSeen) (at : ℕ) (d : PassSeen) → at < length passes
    → map number_of (take at passes) ≡ range_with_len 0 at
    → number_of (get_or passes at d) ≡ at
    → map number_of (take (at + 1) passes) ≡ range_with_len 0 (at + 1)
one_more passes at d below before is =
    ap (map number_of) (take_more passes at d below)
    ∙ map_more (take at passes) (get_or passes at d ∷ [])
    ∙ ap (λ (ks : List ℕ). ks ++ number_of (get_or passes at d) ∷ []) before
    ∙ ap (λ (k : ℕ). range_with_len 0 at ++ k ∷ []) (is ∙ zero_more at)
    ∙ sym (more 0 at)
    ∙ ap (range_with_len 0) (next at)

-- passes by number have the numbers of their places
pub number_at : (passes : List PassSeen) (count at : ℕ) (d : PassSeen) → at < length passes
    → map number_of passes ≡ range_with_len 0 count → number_of (get_or passes at d) ≡ at
number_at passes count at d below all =
    let many = length-map passes number_of in
    let counted = length-range_with_len 0 count in
    let same : length (map number_of passes) ≡ length (range_with_len 0 count) =
    ap (λ (ks : List ℕ). length ks) all in
    sym (get_or-map number_of passes at d 0 below)
    ∙ ap (λ (ks : List ℕ). get_or ks at 0) all
    ∙ get_or-range_with_len 0 count at 0 (omega arith)
    ∙ sym (zero_more at)

-- and there are as many as numbers
pub count_of : (passes : List PassSeen) (count : ℕ)
    → map number_of passes ≡ range_with_len 0 count → length passes ≡ count
count_of passes count all =
    sym (length-map passes number_of)
    ∙ ap (λ (ks : List ℕ). length ks) all
    ∙ length-range_with_len 0 count

-- what holds of each holds of each with one more among them
pub all_with : {X : Type 0} (P : X → Type 0) (at : ℕ) (xs : List X) (x : X) → All P xs → P x
    → All P (take at xs ++ x ∷ drop at xs)
all_with P zero xs x each one zero d below = one
all_with P zero xs x each one (suc k) d below = each k d (omega arith)
all_with P (suc at) [] x each one zero d below = one
all_with P (suc at) [] x each one (suc k) d below = absurd (omega arith)
all_with P (suc at) (y ∷ xs) x each one zero d below = each 0 d (omega arith)
all_with P (suc at) (y ∷ xs) x each one (suc k) d below =
    all_with P at xs x (λ i e less. each (suc i) e (omega arith)) one k d (omega arith)
