-- What a read takes from the bytes that are left, and what a write adds to those that are held. Bytes that are
-- told stay told, and those that are not stay untold.
use Rattle.std.specs.Prelude.{◌≡◌, ℕ, ◌≤◌, List, [], length, take, Option, None, Some}
use Rattle.std.specs.Io.KnownBytes.{prepend_known, append_known}

-- these bytes were taken from the front of what was left
abbrev pub Takes : Option (List ℕ) → List ℕ → Option (List ℕ) → Type 0
Takes old bytes new = old ≡ prepend_known bytes new

-- nothing is left, where that is told
abbrev pub IsEmpty : Option (List ℕ) → Type 0
IsEmpty None = Unit {0}
IsEmpty (Some xs) = xs ≡ []

-- these bytes were added at the end of what was held
abbrev pub Adds : Option (List ℕ) → List ℕ → Option (List ℕ) → Type 0
Adds old bytes new = new ≡ append_known old bytes

-- some first bytes of these were added, maybe none and maybe all
abbrev pub AddsPrefix : Option (List ℕ) → List ℕ → Option (List ℕ) → Type 0
AddsPrefix old bytes new = (n : ℕ) × (n ≤ length bytes) × Adds old (take n bytes) new
