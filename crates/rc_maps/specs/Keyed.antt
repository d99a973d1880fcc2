-- Entries of tables, by their keys' values.
use Rattle.std.specs.Prelude.{ℕ, Bool, List, [], ◌∷◌, T, map, is_some}
use Rattle.std.specs.FinMap as fin
use Rattle.rc_maps.specs.Imports.{FinMap, is_sorted, IsDistinct, keys_of, Values, values_cmp, values_eq, Counted, present, values_in}
use Rattle.std.proofs.Common.{Vec, Global}
use Rattle.rc_maps.specs.declared.keyed.Keyed.{Keyed}

-- entries by plain numbers, as those by lists of one value
abbrev pub by_one : {X : Type 0} → List (ℕ × X) → List (Values × X)
by_one es = map (λ e. (e.0 ∷ [], e.1)) es

-- the map of entries by plain numbers
abbrev pub entries_one : {X : Type 0} → List (ℕ × X) → FinMap values_cmp X
entries_one es = fin.from_entries (by_one es)

-- entries by arrays of two numbers, which are the lists of their values already, in the form of the others
abbrev pub by_two : {X : Type 0} → List (List ℕ × X) → List (Values × X)
by_two es = map (λ e. (e.0, e.1)) es

-- entries by vectors, as those by their values
abbrev pub by_many : {X : Type 0} → List (Vec ℕ Global × X) → List (Values × X)
by_many es = map (λ e. (e.0.items, e.1)) es

-- no two keys are equal
abbrev pub AreApart : {X : Type 0} → List (Values × X) → Type 0
AreApart es = IsDistinct values_eq (keys_of es)

-- a value with its key's values
abbrev pub pair_of : {X : Type 0} → Keyed X → Values × X
pair_of k = (k.key.now, k.value.now)

-- the keys are distinct and rise
abbrev pub IsKeyed : {X : Type 0} → List (Values × X) → Type 0
IsKeyed es = T (is_sorted values_cmp es)

-- the row is there
abbrev pub has_row : Counted → Bool
has_row c = is_some (present c)

-- of each row that is there its key and its extra values, in the walk's order
abbrev pub values_of_walk : List (Keyed Counted) → Values
values_of_walk all = values_in (map pair_of all)
