-- The rows of a block.
use Rattle.std.specs.Prelude.{ℕ, ◌<◌, List, [], ◌∷◌, map}
use Rattle.rc_maps.specs.Imports.{Values, Counted, IsKeyed, Items}
use Rattle.rc_maps.specs.declared.block.Row.{Row}

module _ {n : ℕ} where
  -- the row's key, with its extra values and its count
  abbrev pub item_of : Row n → Values × Counted
  item_of row = (row.key ∷ [], (row.extra, row.count))

  -- the rows by their keys
  abbrev pub items_of : List (Row n) → Items
  items_of rows = map item_of rows

-- the rows have fewer extra values than a relation may have columns, and their keys are distinct and rise
pub record IsBlock (n : ℕ) (rows : List (Row n)) : Type 0 where
  pub narrow : n < 32
  pub keyed : IsKeyed (items_of rows)
