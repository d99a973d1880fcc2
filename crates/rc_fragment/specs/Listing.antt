-- The rows that a fragment's edges keep, as one rising list of (edge, tuple, count).
use Rattle.std.specs.Prelude.{◌≡◌, ℕ, suc, ◌<◌, List, [], ◌∷◌, ◌++◌, Option, None, Some, map}
use Rattle.rc_fragment.specs.Imports.{flat_map, slice_get, option_map, In, gather, Pairs, Values, Counted, Rows, EdgeRow, edge_row_cmp}
use Rattle.std.specs.FinMap as fin
use Rattle.rc_fragment.specs.Container.{now_in}
use Rattle.rc_fragment.specs.RowValues.{HasValues, IsParted, row_from}
use Rattle.rc_fragment.specs.Sources.{sources_of, found_at, kept_at, AreOfShape}
use Rattle.rc_fragment.specs.declared.container.Container.{Container}
use Rattle.rc_fragment.specs.declared.edge_rows.EdgeRows.{EdgeRows}
use Rattle.rc_fragment.specs.declared.shape.EdgeShape.{EdgeShape}

-- the row and the count of what is kept at a source and a key
abbrev pub row_at : EdgeShape → Values → Values → Counted → Pairs × ℕ
row_at shape source key c = (row_from shape source key c.0, c.1)

-- the rows of one source, by the entries of its container
abbrev pub rows_with : EdgeShape → Values → List (Values × Counted) → List Pairs
rows_with shape source es = map (λ e. row_from shape source e.0 e.1.0) es

-- the same, of the container that a source has, if any
abbrev pub source_rows : EdgeShape → Values → Option Container → List Pairs
source_rows shape source None = []
source_rows shape source (Some c) = rows_with shape source (fin.entries (now_in c))

-- a source's rows with their counts
abbrev pub rows_of_source : (Container → Rows) → EdgeShape → Values × Container → List (Pairs × ℕ)
rows_of_source part shape s = map (λ e. row_at shape s.0 e.0 e.1) (fin.entries (part s.1))

-- the row of what is kept at a source and a key, if anything
abbrev pub row_found : EdgeShape → Values → Values → Option Counted → Option Pairs
row_found shape source key o = option_map (λ c. row_from shape source key c.0) o

-- the rows of one edge, source by source
abbrev pub rows_of_edge : (Container → Rows) → EdgeRows → List (Pairs × ℕ)
rows_of_edge part edge = flat_map (rows_of_source part edge.shape) (fin.entries (sources_of edge))

-- the rows of several edges, the first of which has this number
abbrev pub rows_from : (Container → Rows) → ℕ → List EdgeRows → List EdgeRow
rows_from part e [] = []
rows_from part e (edge ∷ edges) = map (λ c. (e, c.0, c.1)) (rows_of_edge part edge) ++ rows_from part (suc e) edges

-- the rows of all edges, rising
abbrev pub listing : (Container → Rows) → List EdgeRows → List EdgeRow
listing part edges = gather edge_row_cmp (rows_from part 0 edges)

-- what is found at a source and a key of the edge with this number
abbrev pub found_of : (Container → Rows) → Option EdgeRows → Values → Values → Option Counted
found_of part None source key = None
found_of part (Some edge) source key = found_at part (sources_of edge) source key

abbrev pub found_by : (Container → Rows) → List EdgeRows → ℕ → Values → Values → Option Counted
found_by part edges e source key = found_of part (slice_get edges e) source key

-- each row has the values at which it is kept and the edge's columns, and a count of at least 1
pub record IsFiled (part : Container → Rows) (edge : EdgeRows) : Type 0 where
  pub values : (s k : Values) (c : Counted) → found_at part (sources_of edge) s k ≡ Some c → HasValues edge.shape (row_from edge.shape s k c.0) s k c.0
  pub counts : (s k : Values) (c : Counted) → found_at part (sources_of edge) s k ≡ Some c → 0 < c.1

-- each row that is kept has the values at which it is kept and the edge's columns
pub record IsStored (edge : EdgeRows) : Type 0 where
  pub values : (s k : Values) (c : Counted) → kept_at edge s k ≡ Some c → HasValues edge.shape (row_from edge.shape s k c.0) s k c.0
  pub forms : AreOfShape edge
  pub parted : IsParted edge.shape

abbrev pub AreStored : List EdgeRows → Type 0
AreStored edges = (edge : EdgeRows) → In edge edges → IsStored edge

-- the shapes of the edges
abbrev pub shapes : List EdgeRows → List EdgeShape
shapes edges = map (λ (edge : EdgeRows). edge.shape) edges

-- no edge has a row
abbrev pub AreEmpty : List EdgeRows → Type 0
AreEmpty edges = (edge : EdgeRows) → In edge edges → (sources_of edge ≡ fin.empty) × AreOfShape edge × IsParted edge.shape
