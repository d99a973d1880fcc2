-- Where a singleton keeps its entries.
use Rattle.std.specs.Prelude.{None, Some, [], ◌∷◌}
use Rattle.std.specs.FinMap as fin
use Rattle.rc_edges.specs.EdgeMap.{Rows}
use Rattle.rc_edges.specs.ListMap.{rows_in}
use Rattle.rc_edges.specs.declared.one_map.Place.{Place}
use Rattle.rc_edges.specs.declared.one_map.Place.TheVariants.{One, Several}

abbrev pub rows_at : Place → Rows
rows_at (One None) = fin.empty
rows_at (One (Some i)) = rows_in (i ∷ [])
rows_at (Several list) = list
