-- What a table of an edge's containers keeps.
use Rattle.std.specs.Prelude.{◌≡◌, ◌==◌, ℕ, Bool, cond, Option, None, Some, []}
use Rattle.rc_fragment.specs.Imports.{LendsSo, MutBor, Fml, OnSome, FinMap, Values, values_cmp, written, entries_of}
use Rattle.std.specs.FinMap as fin
use Rattle.rc_maps.specs.HashTable.{has_one_column}
use Rattle.rc_fragment.specs.contracts.container.Container.{the_row as container_row}
use Rattle.rc_fragment.specs.contracts.source_table.SourceTable.{the_row}
use Rattle.rc_fragment.specs.declared.container.Container.{Container}
use Rattle.rc_fragment.specs.declared.source_table.SourceTable.{SourceTable}
use Rattle.rc_fragment.specs.declared.source_table.SourceTable.TheVariants.{Root, Keyed}

-- the containers by the values of their sources
abbrev pub containers_of : SourceTable → FinMap values_cmp Container
containers_of (Root place) = written fin.empty [] place
containers_of (Keyed table) = entries_of table

-- how wide the sources are that a table takes: without columns, or of one column alone, or of any
abbrev pub width_of : SourceTable → Option Bool
width_of (Root place) = None
width_of (Keyed table) = Some (has_one_column table)

-- the width of a table for sources of so many columns
abbrev pub width_for : ℕ → Option Bool
width_for n = cond (n == 0) None (Some (n == 1))

-- the source has this container, and each other what it had
pub record IsSet (old new : SourceTable) (source : Values) (c : Container) : Type 0 where
  pub containers : containers_of new ≡ fin.insert (containers_of old) source c
  pub width : width_of new ≡ width_of old

-- the source's container ends as the last one written through r, and at `None` the table stays
abbrev pub lends_container : MutBor SourceTable → Values → Option (MutBor Container) → Fml
lends_container table source r = LendsSo the_row container_row table r (λ new c. OnSome r (IsSet table.now new source c)) (λ new. new ≡ table.now)
