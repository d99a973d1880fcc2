-- The first tuple of a list that matches, or that agrees with another on some columns.
use Rattle.std.specs.Prelude.{◌≡◌, ℕ, ◌<◌, Bool, List, [], ◌∷◌, length, filter, Option, Some, None, slice_index_or}
use Rattle.rc_tuple.specs.Tuple.{Pairs, agree_on, matches}

-- the place of the first tuple that passes the test, if any does
abbrev pub IsFirst : (Pairs → Bool) → List Pairs → Option ℕ → Type 0
IsFirst test r None = filter test r ≡ []
IsFirst test r (Some at) = (at < length r) × ((others : List Pairs) × (filter test r ≡ slice_index_or r at [] ∷ others))

abbrev pub IsFirstMatch : Pairs → List Pairs → Option ℕ → Type 0
IsFirstMatch pattern r found = IsFirst (matches pattern) r found

abbrev pub IsFirstAgreeing : List ℕ → Pairs → List Pairs → Option ℕ → Type 0
IsFirstAgreeing cols t r found = IsFirst (agree_on cols t) r found
