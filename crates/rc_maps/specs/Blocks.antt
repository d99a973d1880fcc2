-- The rows of several blocks.
use Rattle.std.specs.Prelude.{◌≡◌, ◌^◌, ℕ, zero, suc, ◌<◌, ◌≤◌, Bool, false, not, List, [], ◌∷◌, T, drop, length, slice_index_or}
use Rattle.rc_maps.specs.Imports.{AllByRecursion, flat_map, Less, is_lt, below_all, Values, values_cmp, Rows, IsKeyed, Items}
use Rattle.std.specs.FinMap as fin

-- the rows and tombstones of the blocks, one block behind the other
abbrev pub items_in : List Rows → Items
items_in blocks = flat_map fin.entries blocks

-- the first of the items' keys is at or below this key
abbrev pub begin_by : Items → Values → Bool
begin_by [] key = false
begin_by (i ∷ items) key = not (is_lt (values_cmp key i.0))

abbrev pub begins_by : Rows → Values → Bool
begins_by block key = begin_by (fin.entries block) key

-- the keys of the items are below this key
abbrev pub AreBelow : Items → Values → Type 0
AreBelow items key = AllByRecursion (λ i. values_cmp i.0 key ≡ Less) items

-- the keys of the blocks before this place are below the key, and those of the blocks behind it are above
abbrev pub IsOwn : Values → List Rows → ℕ → Type 0
IsOwn key [] at = ⊥
IsOwn key (b ∷ blocks) zero = T (below_all values_cmp key (items_in blocks))
IsOwn key (b ∷ blocks) (suc at) = AreBelow (fin.entries b) key × IsOwn key blocks at

-- The keys rise within each block and from block to block. Each has up to 128 rows and tombstones, and none but the first has none;
-- there are no more blocks than 2 ^ 56.
pub record AreBlocks (blocks : List Rows) : Type 0 where
  pub keyed : IsKeyed (items_in blocks)
  pub some : 0 < length blocks
  pub few : length blocks ≤ 2 ^ 56
  pub small : AllByRecursion (λ b. fin.len b ≤ 128) blocks
  pub filled : AllByRecursion (λ b. 0 < fin.len b) (drop 1 blocks)

-- the key's own block stands at this place, and has room for a row
pub record HasRoom (key : Values) (blocks : List Rows) (at : ℕ) : Type 0 where
  pub own : IsOwn key blocks at
  pub within : at < length blocks
  pub room : (d : Rows) → fin.len (slice_index_or blocks at d) < 128
