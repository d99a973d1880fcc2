-- Places in a list of entries that rises by its keys.
use Rattle.std.specs.Prelude.{◌≡◌, ℕ, zero, suc, Bool, not, List, [], ◌∷◌, T, ◌++◌, length}
use Rattle.rc_edges.specs.Imports.{flat_map, Less, is_sorted}
use Rattle.std.specs.FinMap as fin
use Rattle.rc_edges.specs.Values.{Values, values_cmp}
use Rattle.rc_edges.specs.EdgeMap.{Counted, Rows, parts, present}
use Rattle.rc_edges.specs.Entry.{is_tombstone}

abbrev pub Items : Type 0
Items = List (Values × Counted)

-- the keys are distinct and rise
abbrev pub IsKeyed : Items → Type 0
IsKeyed items = T (is_sorted values_cmp items)

abbrev pub rows_in : Items → Rows
rows_in items = fin.from_entries items

-- the item at this place has the key, and those before it have smaller keys
abbrev pub IsAt : Values → Items → ℕ → Type 0
IsAt key [] at = ⊥
IsAt key (i ∷ items) zero = key ≡ i.0
IsAt key (i ∷ items) (suc at) = (values_cmp i.0 key ≡ Less) × IsAt key items at

-- the key is above those of the items before this place, and below that of the item at it
abbrev pub IsGap : Values → Items → ℕ → Type 0
IsGap key [] zero = Unit {0}
IsGap key [] (suc at) = ⊥
IsGap key (i ∷ items) zero = values_cmp key i.0 ≡ Less
IsGap key (i ∷ items) (suc at) = (values_cmp i.0 key ≡ Less) × IsGap key items at

-- of each item's row that is there its key and its extra values, in their order
abbrev pub values_in : Items → Values
values_in items = flat_map (λ e. e.0 ++ e.1.0) (parts present items)

-- how many of the items' rows are there
abbrev pub count_in : Items → ℕ
count_in items = length (parts present items)

-- whether the item has a row, and not its tombstone
abbrev pub is_filled : Values × Counted → Bool
is_filled i = not (is_tombstone i.1)
