-- Rows whose values stand one behind the other.
use Rattle.std.specs.Prelude.{◌≡◌, ◌≤◌, ◌-◌, ◌∷◌, ℕ, zero, suc, List, [], take, drop}

-- the rows that end at these places, of which the first begins at a place, and each other one where the one before ends
abbrev pub rows_from : ℕ → List ℕ → List ℕ → List (List ℕ)
rows_from start [] values = []
rows_from start (end ∷ ends) values = take (end - start) (drop start values) ∷ rows_from end ends values

-- no row ends before it begins, and behind the last is no value more
abbrev pub AreEnds : ℕ → List ℕ → ℕ → Type 0
AreEnds start [] count = start ≡ count
AreEnds start (end ∷ ends) count = (start ≤ end) × AreEnds end ends count

-- so many rows of one width
abbrev pub rows_of_width : ℕ → ℕ → List ℕ → List (List ℕ)
rows_of_width width zero values = []
rows_of_width width (suc rows) values = take width values ∷ rows_of_width width rows (drop width values)
