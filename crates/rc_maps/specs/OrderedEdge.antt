-- What a container of the kind ordered keeps.
use Rattle.std.specs.Prelude.{◌≡◌, ℕ, Bool, true, Option, None, Some}
use Rattle.rc_edges.specs.EdgeMap.{Rows}
use Rattle.rc_maps.specs.declared.ordered_edge.OrderedEdge.{OrderedEdge}
use Rattle.rc_maps.specs.declared.ordered_edge.OrderedEdge.TheVariants.{Bare, One, Two, ManyBare, ManyOne, ManyTwo, Tree}

-- the rows that are kept, by their keys, with the tombstones
abbrev pub rows_of : OrderedEdge → Rows
rows_of (Bare block) = block
rows_of (One block) = block
rows_of (Two block) = block
rows_of (ManyBare blocks) = blocks
rows_of (ManyOne blocks) = blocks
rows_of (ManyTwo blocks) = blocks
rows_of (Tree tree) = tree.rows

-- whether only keys of one column are taken
abbrev pub has_one_column : OrderedEdge → Bool
has_one_column (Bare block) = true
has_one_column (One block) = true
has_one_column (Two block) = true
has_one_column (ManyBare blocks) = true
has_one_column (ManyOne blocks) = true
has_one_column (ManyTwo blocks) = true
has_one_column (Tree tree) = tree.one_column

-- a row with so many extra values has a place beside the others
abbrev pub Fits : OrderedEdge → ℕ → Type 0
Fits (Bare block) n = n ≡ 0
Fits (One block) n = n ≡ 1
Fits (Two block) n = n ≡ 2
Fits (ManyBare blocks) n = n ≡ 0
Fits (ManyOne blocks) n = n ≡ 1
Fits (ManyTwo blocks) n = n ≡ 2
Fits (Tree tree) n = Unit {0}

-- another container of the same rows, in which a row with so many extra values has a place; or it has one already
abbrev pub IsMoved : OrderedEdge → Option OrderedEdge → ℕ → Type 0
IsMoved old None n = Fits old n
IsMoved old (Some new) n = Fits new n × (rows_of new ≡ rows_of old) × (has_one_column new ≡ has_one_column old)
