-- Tuples over the same columns.
use Rattle.std.specs.Prelude.{◌≡◌, ℕ, List}
use Rattle.rc_rel.specs.Imports.{AllByRecursion, Pairs, cols_of}

-- each tuple has these columns and no other
abbrev pub AreOver : List ℕ → List Pairs → Type 0
AreOver columns tuples = AllByRecursion (λ t. columns ≡ cols_of t) tuples
