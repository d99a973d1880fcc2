-- What the contracts of an edge's containers cite: rows with their counts, by their keys.
use Rattle.std.specs.Prelude.{◌≡◌, ℕ, ◌+◌, ◌-◌, ◌++◌, Bool, true, false, List, Option, None, Some, IsSome, length, nat_lt, if◌then◌else◌}
use Rattle.rc_edges.specs.Imports.{Coded, coded_ℕ, coded_list, coded×, filter_map, flat_map, option_and_then, option_map, FinMap}
use Rattle.std.specs.FinMap as fin
use Rattle.rc_edges.specs.Values.{Values, values_cmp}

-- a row's extra values, those that neither its source nor its key has, with its count: 0 in a tombstone, which stays of a row until it is swept
abbrev pub Counted : Type 0
Counted = Values × ℕ

-- triples (key, extra values, count), whose keys are distinct and rise
abbrev pub Rows : Type 0
Rows = FinMap values_cmp Counted

-- the row, where its count is at least 1
abbrev pub present : Counted → Option Counted
present c = if nat_lt 0 c.1 then Some c else None

-- the keys whose value has this part, with it
abbrev pub parts : {X Y : Type 0} → (X → Option Y) → List (Values × X) → List (Values × Y)
parts part es = filter_map (λ e. option_map (λ y. (e.0, y)) (part e.1)) es

abbrev pub keep : {X Y : Type 0} → (X → Option Y) → FinMap values_cmp X → FinMap values_cmp Y
keep part m = fin.from_entries (parts part (fin.entries m))

-- the rows whose count is at least 1
abbrev pub current : Rows → Rows
current m = keep present m

-- the row that is there at a key: one with a count of at least 1
abbrev pub found : Rows → Values → Option Counted
found m key = option_and_then present (fin.get m key)

-- the count of what is kept at a key
abbrev pub count_of : Option Counted → ℕ
count_of None = 0
count_of (Some c) = c.1

abbrev pub count_at : Rows → Values → ℕ
count_at m key = count_of (fin.get m key)

-- the extra values of what was found at a key
abbrev pub extra_of : Option Counted → Option Values
extra_of o = option_map (λ (c : Counted). c.0) o

-- the row found at a key, if one was, has these extra values
abbrev pub HasExtra : Option Counted → Values → Type 0
HasExtra None extra = Unit {0}
HasExtra (Some c) extra = c.0 ≡ extra

-- a row is kept at the key, with as many extra values
abbrev pub HasAsMany : Option Counted → Values → Type 0
HasAsMany None extra = ⊥
HasAsMany (Some c) extra = length c.0 ≡ length extra

-- what is kept at a key, with one less
abbrev pub one_less : Option Counted → Option Counted
one_less o = option_map (λ (c : Counted). (c.0, c.1 - 1)) o

-- the map in which the key has this value, or none
abbrev pub written : {X : Type 0} → FinMap values_cmp X → Values → Option X → FinMap values_cmp X
written m key None = fin.remove m key
written m key (Some x) = fin.insert m key x

-- the rows with that of the key and these extra values once more
abbrev pub once_more : Rows → Values → Values → Rows
once_more m key extra = fin.insert m key (extra, count_at m key + 1)

-- the row with these extra values was put at the key with the count 1, as no row was there; or one was there, and nothing changed
abbrev pub IsAddedNew : Rows → Rows → Values → Values → Bool → Type 0
IsAddedNew old new key extra true = (found old key ≡ None) × (new ≡ fin.insert old key (extra, 1))
IsAddedNew old new key extra false = IsSome (found old key) × (new ≡ old)

-- the rows with that of the key once less
abbrev pub once_less : Rows → Values → Rows
once_less m key = written m key (one_less (fin.get m key))

-- the rows without the tombstone of the key, if there is one
abbrev pub swept : Rows → Values → Rows
swept m key = written m key (found m key)

-- of each row that is there its key and its extra values, in one list that rises by the keys
abbrev pub listed : Rows → Values
listed m = flat_map (λ e. e.0 ++ e.1.0) (fin.entries (current m))

-- no other key has a row that is there
abbrev pub HasNoOther : Rows → Values → Type 0
HasNoOther m key = (other : Values) → IsSome (found m other) → other ≡ key

-- a key that is taken: where only keys of one column are, it has one value
abbrev pub HasWidth : Bool → Values → Type 0
HasWidth true key = length key ≡ 1
HasWidth false key = Unit {0}

abbrev pub rows_code : Coded Rows
rows_code = fin.code (coded_list coded_ℕ) (coded× (coded_list coded_ℕ) coded_ℕ)
