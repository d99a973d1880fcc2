-- The counts of edges' rows, and what adding a tuple's rows and taking them out does to them. (PLDI 2011, operations on decompositions.)
use Rattle.std.specs.Prelude.{ℕ, zero, suc, pred, Bool, List, [], ◌∷◌, ◌==◌, ◌&&◌, filter, not, if◌then◌else◌}
use Rattle.rc_spec.specs.Imports.{put, Pairs, project, tuple_eq}
use Rattle.rc_spec.specs.declared.spec.Spec.{Spec}
use Rattle.rc_spec.specs.Decomposition.{bound, edge_at}
use Rattle.rc_spec.specs.Fragments.{EdgeRow, edge_row_cmp, edge_numbers}

-- whether it is this tuple's row of the edge
abbrev pub is_row_at : ℕ → Pairs → EdgeRow → Bool
is_row_at e tuple row = row.0 == e && tuple_eq row.1 tuple

-- the count of a tuple's row of the edge, or 0 where it has none
abbrev pub count_at : ℕ → Pairs → List EdgeRow → ℕ
count_at e tuple [] = 0
count_at e tuple (row ∷ rows) = if is_row_at e tuple row then row.2 else count_at e tuple rows

-- the rows with this count for one of them, which is out at 0
abbrev pub with_count : ℕ → Pairs → ℕ → List EdgeRow → List EdgeRow
with_count e tuple zero rows = filter (λ row. not (is_row_at e tuple row)) rows
with_count e tuple (suc n) rows = put edge_row_cmp (e, tuple, suc n) (filter (λ row. not (is_row_at e tuple row)) rows)

-- raises or begins the count of a row
abbrev pub raised : ℕ → Pairs → List EdgeRow → List EdgeRow
raised e tuple rows = with_count e tuple (suc (count_at e tuple rows)) rows

-- lowers the count of a row, which goes at 0; nothing changes where it isn't there
abbrev pub lowered : ℕ → Pairs → List EdgeRow → List EdgeRow
lowered e tuple rows = with_count e tuple (pred (count_at e tuple rows)) rows

-- the tuple of a tuple's row in an edge: its projection on the columns of the edge's target
abbrev pub row_in : Spec → Pairs → ℕ → Pairs
row_in spec t e = project (bound spec (edge_at spec e).to) t

-- the tuple's rows of some edges, one more of each
abbrev pub all_raised : Spec → Pairs → List ℕ → List EdgeRow → List EdgeRow
all_raised spec t [] rows = rows
all_raised spec t (e ∷ edges) rows = all_raised spec t edges (raised e (row_in spec t e) rows)

-- and one less of each
abbrev pub all_lowered : Spec → Pairs → List ℕ → List EdgeRow → List EdgeRow
all_lowered spec t [] rows = rows
all_lowered spec t (e ∷ edges) rows = all_lowered spec t edges (lowered e (row_in spec t e) rows)

-- with the tuple's rows in all edges, and without them
abbrev pub with_rows : Spec → Pairs → List EdgeRow → List EdgeRow
with_rows spec t rows = all_raised spec t (edge_numbers spec) rows

abbrev pub without_rows : Spec → Pairs → List EdgeRow → List EdgeRow
without_rows spec t rows = all_lowered spec t (edge_numbers spec) rows
