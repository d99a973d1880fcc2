-- Numbers of what is left when one is gone, and what had them before.
use Rattle.std.proofs.Common.{◌≡◌, ℕ, ◌+◌, ◌-◌, ◌<◌, Bool, true, false, if◌then◌else◌, nat_lt, List, get_or, length, refl, ap, ◌∙◌, arith}
use Rattle.rc_inline.proofs.Imports.{remove, ltb-true, ltb-false, lt-ltb, le-ltb, get_or-remove_above, get_or-remove_below, renumbered}

-- what has this number had before: the same, or one more
abbrev pub before : ℕ → ℕ → ℕ
before gone k = if nat_lt k gone then k else k + 1

pub before_other : (gone k : ℕ) → before gone k ≡ gone → ⊥
before_other gone k = go (nat_lt k gone) refl
  where
    go : (b : Bool) → nat_lt k gone ≡ b → (if b then k else k + 1) ≡ gone → ⊥
    go true l e = let below = ltb-true k gone l in omega (arith, below, e)
    go false l e = let above = ltb-false k gone l in omega (arith, above, e)

pub before_within : (gone k left : ℕ) → k < left → before gone k < left + 1
before_within gone k left l = go (nat_lt k gone)
  where
    go : (b : Bool) → (if b then k else k + 1) < left + 1
    go true = omega (arith, l)
    go false = omega (arith, l)

pub renumbered_before : (gone k : ℕ) → renumbered gone (before gone k) ≡ k
renumbered_before gone k = go (nat_lt k gone) refl
  where
    go : (b : Bool) → nat_lt k gone ≡ b → renumbered gone (if b then k else k + 1) ≡ k
    go true l =
        let below = ltb-true k gone l in
        ap (λ b. if b then k - 1 else k) (le-ltb gone k (omega (arith, below)))
    go false l =
        let above = ltb-false k gone l in
        ap (λ b. if b then k + 1 - 1 else k + 1) (lt-ltb gone (k + 1) (omega (arith, above))) ∙ omega arith

pub before_renumbered : (gone n : ℕ) → (n ≡ gone → ⊥) → before gone (renumbered gone n) ≡ n
before_renumbered gone n other = go (nat_lt gone n) refl
  where
    go : (b : Bool) → nat_lt gone n ≡ b → before gone (if b then n - 1 else n) ≡ n
    go true l =
        let above = ltb-true gone n l in
        ap (λ b. if b then n - 1 else n - 1 + 1) (le-ltb (n - 1) gone (omega (arith, above))) ∙ omega (arith, above)
    go false l =
        let below = ltb-false gone n l in
        ap (λ b. if b then n else n + 1) (lt-ltb n gone (omega (arith, below, other)))

-- what stands in a list without an element stood in the list
pub get_removed : {A : Type 0} (xs : List A) (gone k : ℕ) (d : A) → gone < length xs → get_or (remove xs gone) k d ≡ get_or xs (before gone k) d
get_removed xs gone k d within = go (nat_lt k gone) refl
  where
    go : (b : Bool) → nat_lt k gone ≡ b → get_or (remove xs gone) k d ≡ get_or xs (if b then k else k + 1) d
    go true l = get_or-remove_below xs gone d k (ltb-true k gone l) within
    go false l = get_or-remove_above xs gone d k (ltb-false k gone l) within
