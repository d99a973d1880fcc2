-- Laws of sets that grow: how many numbers a set lacks.
use Rattle.std.specs.Prelude.{◌≡◌, ℕ, zero, suc, ◌+◌, ◌<◌, ◌≤◌, Bool, true, false, List, [], ◌∷◌, if◌then◌else◌}
use Rattle.std.proofs.Common.{inl, inr, refl, sym, subst, ◌∙◌, arith}
use Rattle.std.proofs.lemmas.Bool.{false≢true, cases_eq}
use Rattle.rc_tuple.specs.RisingSet.{In}
use Rattle.rc_tuple.specs.RisingSetLaws.{in_has, has_in}
use Rattle.rc_tuple.specs.ColSet.{has, Within, is_within, IsColSet, union}
use Rattle.rc_tuple.specs.ColSetLaws.{union_left, union_right}

-- how many of the numbers below n are not in the list
pub missing : ℕ → List ℕ → ℕ
missing zero xs = 0
missing (suc n) xs = (if has xs n then 0 else 1) + missing n xs

one_missing : (a b : Bool) → (a ≡ true → b ≡ true) → (if b then 0 else 1) ≤ (if a then 0 else 1)
one_missing true true f = omega arith
one_missing true false f = absurd (false≢true (f refl))
one_missing false true f = omega arith
one_missing false false f = omega arith

missing_le : (n : ℕ) (xs ys : List ℕ) → Within xs ys → missing n ys ≤ missing n xs
unfolding missing
missing_le zero xs ys w = omega arith
missing_le (suc n) xs ys w =
    let a : (if has ys n then 0 else 1) ≤ (if has xs n then 0 else 1) = one_missing (has xs n) (has ys n) (λ e. has_in ys n (w n (in_has xs n e))) in
    let b : missing n ys ≤ missing n xs = missing_le n xs ys w in omega arith

pub missing_lt : (n : ℕ) (xs ys : List ℕ) → Within xs ys → (c : ℕ) → c < n → In c ys → (In c xs → ⊥) → missing n ys < missing n xs
unfolding missing
missing_lt zero xs ys w c l h g = absurd (omega arith)
missing_lt (suc n) xs ys w c l h g = elim (cases_eq c n) [
  | inl e ↦ (let b : missing n ys ≤ missing n xs = missing_le n xs ys w in
      let y : has ys n ≡ true = has_in ys n (subst (λ z. In z ys) e h) in
      let x : has xs n ≡ false = none (has xs n) refl e in
      rw (y, x) (omega arith))
  | inr e ↦ (let b : missing n ys < missing n xs = missing_lt n xs ys w c (omega arith) h g in
      let a : (if has ys n then 0 else 1) ≤ (if has xs n then 0 else 1) = one_missing (has xs n) (has ys n) (λ q. has_in ys n (w n (in_has xs n q))) in omega arith)
]
  where
    none : (b : Bool) → has xs n ≡ b → c ≡ n → b ≡ false
    none true q e = absurd (g (subst (λ z. In z xs) (sym e) (in_has xs n q)))
    none false q e = refl

-- one that the first has and the second lacks
pub not_within : (xs ys : List ℕ) → is_within xs ys ≡ false → (c : ℕ) × In c xs × (In c ys → ⊥)
not_within [] ys h = absurd (false≢true (sym h))
not_within (x ∷ xs) ys h = go (has ys x) refl (λ (k : is_within xs ys ≡ false). not_within xs ys k)
  where
    go : (b : Bool) → has ys x ≡ b → (is_within xs ys ≡ false → (c : ℕ) × In c xs × (In c ys → ⊥)) → (c : ℕ) × In c (x ∷ xs) × (In c ys → ⊥)
    go true e later =
        let rest : is_within xs ys ≡ false = rw e at h in
        let r : (c : ℕ) × In c xs × (In c ys → ⊥) = later rest in (r.0, inr r.1, r.2)
    go false e later = (x, inl refl, λ m. false≢true (sym e ∙ has_in ys x m))

-- a union with a set that is not within the first lacks less
pub missing_union : (xs ys : List ℕ) → IsColSet ys → is_within ys xs ≡ false → missing 32 (union xs ys) < missing 32 xs
missing_union xs ys set h =
    let r : (c : ℕ) × In c ys × (In c xs → ⊥) = not_within ys xs h in
    missing_lt 32 xs (union xs ys) (union_left xs ys) r.0 (set.below r.0 r.1) (union_right xs ys r.0 r.1) r.2

-- a larger set lacks less
pub missing_fewer : (all more : List ℕ) → IsColSet more → Within all more → is_within more all ≡ false → missing 32 more < missing 32 all
missing_fewer all more set w e =
    let q : (c : ℕ) × In c more × (In c all → ⊥) = not_within more all e in
    missing_lt 32 all more w q.0 (set.below q.0 q.1) q.1 q.2
