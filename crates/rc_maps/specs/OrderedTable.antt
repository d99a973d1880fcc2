-- What an ordered table keeps.
use Rattle.std.specs.Prelude.{◌≡◌, Bool, true, false, Option}
use Rattle.rc_maps.specs.Imports.{LendsSo, MutBor, Fml, RattleType, OnSome, FinMap, Values, values_cmp}
use Rattle.std.specs.FinMap as fin
use Rattle.rc_maps.specs.Keyed.{by_one, by_many}
use Rattle.rc_maps.specs.declared.ordered_table.OrderedTable.{OrderedTable}
use Rattle.rc_maps.specs.declared.ordered_table.OrderedTable.TheVariants.{One, Many}
use Rattle.rc_maps.specs.contracts.ordered_table.OrderedTable.{the_row}

-- the values by their keys
abbrev pub entries_of : {X : Type 0} → OrderedTable X → FinMap values_cmp X
entries_of (One table) = fin.from_entries (by_one table.entries)
entries_of (Many table alloc) = fin.from_entries (by_many table.entries)

-- whether only keys of one column are taken
abbrev pub has_one_column : {X : Type 0} → OrderedTable X → Bool
has_one_column (One table) = true
has_one_column (Many table alloc) = false

-- the table has this value at the key, and else what the old one has
pub record IsSet {X : Type 0} (old new : OrderedTable X) (key : Values) (x : X) : Type 0 where
  pub entries : entries_of new ≡ fin.insert (entries_of old) key x
  pub width : has_one_column new ≡ has_one_column old

-- the value at the key ends as the last one written through r, and at `None` the table stays
abbrev pub lends_value : (X : RattleType) → MutBor (OrderedTable X.Denot) → Values → Option (MutBor X.Denot) → Fml
lends_value X table key r = LendsSo (the_row X) X table r (λ new x. OnSome r (IsSet table.now new key x)) (λ new. new ≡ table.now)
