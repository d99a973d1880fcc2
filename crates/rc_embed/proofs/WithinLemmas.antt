-- Numbers that aren't all within a limit.
use Rattle.std.proofs.Common.{◌⊎◌, ℕ, ◌<◌, ◌≤◌, List, [], ◌∷◌, inl, inr, refl}
use Rattle.rc_embed.proofs.Imports.{AllByRecursion, cases_lt, In}

abbrev Above : ℕ → List ℕ → Type 0
Above limit numbers = (n : ℕ) × In n numbers × (limit < n)

-- some number is above it
pub some_above : (limit : ℕ) (numbers : List ℕ) → (AllByRecursion (λ n. n ≤ limit) numbers → ⊥) → Above limit numbers
some_above limit [] none = absurd (none tt)
some_above limit (n ∷ numbers) none = go (cases_lt limit n) (λ within. some_above limit numbers (λ all. none (within, all)))
  where
    go : (limit < n) ⊎ (n ≤ limit) → (n ≤ limit → Above limit numbers) → Above limit (n ∷ numbers)
    go (inl above) later = (n, inl refl, above)
    go (inr within) later = let rest = later within in (rest.0, inr rest.1, rest.2)
