-- Replies as a caller reads them: a kind, a number, and rows of values.
use Rattle.std.specs.Prelude.{◌≡◌, ℕ, ◌+◌, ◌-◌, ◌<◌, ◌≤◌, nat_le, List, [], ◌∷◌, ◌++◌, length, map, take, drop, if◌then◌else◌}
use Rattle.rc_embed.specs.Imports.{Option, Some, None, flat_map, Pairs, Reply, Rows, Many, Inserted, Present, Conflict, Removed, Updated, Absent}

-- a tuple's values, in the order of its columns
abbrev pub values_of : Pairs → List ℕ
values_of t = map (λ p. p.1) t

-- the rows that a reply has: those of a query, or the one tuple that was removed, or in whose place another came
abbrev pub rows_in : Reply → List (List ℕ)
rows_in (Rows rows) = rows
rows_in (Many n) = []
rows_in Inserted = []
rows_in Present = []
rows_in (Conflict n) = []
rows_in (Removed t) = values_of t ∷ []
rows_in (Updated t) = values_of t ∷ []
rows_in Absent = []

-- no reply has no row
abbrev pub rows_told : Option Reply → List (List ℕ)
rows_told None = []
rows_told (Some reply) = rows_in reply

-- What copying a row over the first places answers: how many values it has, or nothing where there
-- is no room for it.
abbrev pub IsCopied : {X : Type 0} → List X → List X → List X → Option ℕ → Type 0
IsCopied row old new None = (new ≡ old) × (length old < length row)
IsCopied row old new (Some width) =
    (width ≡ length row) × (width ≤ length old) × (new ≡ row ++ drop (length row) old)

-- what copying the row that was found answers
abbrev pub IsCopiedIf : Option (List ℕ) → List ℕ → List ℕ → Option ℕ → Type 0
IsCopiedIf None old new copied = (new ≡ old) × (copied ≡ None)
IsCopiedIf (Some row) old new copied = IsCopied row old new copied

-- the values of rows, one row behind the other
abbrev pub joined : List (List ℕ) → List ℕ
joined rows = flat_map (λ row. row) rows

-- how many of the rows there is room for, one behind the other
abbrev pub count_fitting : ℕ → List (List ℕ) → ℕ
count_fitting room [] = 0
count_fitting room (row ∷ rows) = if nat_le (length row) room then count_fitting (room - length row) rows + 1 else 0

-- what copying rows over the first places leaves, and how many: as many as there is room for
pub record AreCopied (rows : List (List ℕ)) (old new : List ℕ) (count : ℕ) : Type 0 where
  pub fits : count ≡ count_fitting (length old) rows
  pub values : new ≡ joined (take count rows) ++ drop (length (joined (take count rows))) old

-- what copying a row over the places from one on answers: where it ends, or nothing where there is no room for it
abbrev pub IsCopiedAt : List ℕ → ℕ → List ℕ → List ℕ → Option ℕ → Type 0
IsCopiedAt row start old new None = (new ≡ old) × (length old < start + length row)
IsCopiedAt row start old new (Some end) =
    (end ≡ start + length row) × (end ≤ length old) × (new ≡ take start old ++ (row ++ drop end old))
