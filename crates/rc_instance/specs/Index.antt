-- A hash map from the pairs of keys to tuples: which tuples it has at a key.
use Rattle.std.specs.Prelude.{◌≡◌, ℕ, Option, None, Some, List, [], ◌∷◌, ◌++◌, cond, map, filter}
use Rattle.std.specs.FinMap as fin
use Rattle.rc_instance.specs.Imports.{FinMap, Bor, Pairs, project, tuple_cmp, tuple_eq}
use Rattle.std.proofs.Common.{Vec, Global}

-- the tuples that are lent
abbrev pub tuples_of : List (Bor Pairs) → List Pairs
tuples_of ts = map (λ t. t.now) ts

-- the entries of a map, in its own order
abbrev pub Entries : Type 0
Entries = List (Vec (ℕ × ℕ) Global × Vec (Bor Pairs) Global)

-- the same, by tuples
abbrev pub whole_of : Entries → FinMap tuple_cmp (Vec (Bor Pairs) Global)
whole_of es = fin.from_entries (map (λ e. (e.0.items, e.1)) es)

abbrev pub tuples_in : Option (Vec (Bor Pairs) Global) → List Pairs
tuples_in None = []
tuples_in (Some ts) = tuples_of ts.items

-- the tuples at a key
abbrev pub found_at : Entries → Pairs → List Pairs
found_at es key = tuples_in (fin.get (whole_of es) key)

-- at each key stand the tuples that have its pairs at the columns, in their order
abbrev pub IsIndexed : List ℕ → List Pairs → Entries → Type 0
IsIndexed columns ts es = (key : Pairs) → found_at es key ≡ filter (λ t. tuple_eq key (project columns t)) ts

-- a tuple more stands at the key, and at the others what did
abbrev pub IsAdded : Pairs → Pairs → Entries → Entries → Type 0
IsAdded key t old new = (other : Pairs) → found_at new other ≡ found_at old other ++ cond (tuple_eq other key) (t ∷ []) []
