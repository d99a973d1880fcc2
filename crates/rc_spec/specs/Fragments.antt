-- Fragments: the rows of all contents, parted by the lock stripes on which they fall. (PLDI 2012, lock placement and striping.)
use Rattle.std.specs.Prelude.{ℕ, List, [], ◌∷◌, ◌==◌, map, length}
use Rattle.rc_spec.specs.Imports.{filter, flat_map, range_with_len, Ordering, ordering_then, nat_cmp, gather, has, Pairs, tuple_cmp}
use Rattle.rc_spec.specs.declared.spec.Spec.{Spec}
use Rattle.rc_spec.specs.Contents.{content, join_all}
use Rattle.rc_spec.specs.Decomposition.{edge_at}
use Rattle.rc_spec.specs.Placement.{class_of}
use Rattle.rc_spec.specs.Stripes.{physical_stripe, stripe_total}

-- ---- rows

-- a row of an edge's content: the number of the edge, the tuple, and its count
abbrev pub EdgeRow : Type 0
EdgeRow = ℕ × Pairs × ℕ

-- by edges, then by tuples, then by counts
abbrev pub edge_row_cmp : EdgeRow → EdgeRow → Ordering
edge_row_cmp v w = ordering_then (nat_cmp v.0 w.0) (ordering_then (tuple_cmp v.1 w.1) (nat_cmp v.2 w.2))

-- the numbers of all edges
abbrev pub edge_numbers : Spec → List ℕ
edge_numbers spec = range_with_len 0 (length spec.edges)

-- the rows of the content of the edge with this number
abbrev pub numbered_rows : Spec → List Pairs → ℕ → List EdgeRow
numbered_rows spec r e = map (λ row. (e, row.0, row.1)) (content spec r (edge_at spec e))

-- the rows of all contents, rising
abbrev pub all_rows : Spec → List Pairs → List EdgeRow
all_rows spec r = gather edge_row_cmp (flat_map (numbered_rows spec r) (edge_numbers spec))

-- the tuples of the rows of an edge
abbrev pub tuples_of_edge : ℕ → List EdgeRow → List Pairs
tuples_of_edge e rows = map (λ row. row.1) (filter (λ row. row.0 == e) rows)

-- the join of the tuples of all edges in written order, begun with the one empty tuple
abbrev pub represented_by : Spec → List EdgeRow → List Pairs
represented_by spec rows = join_all ([] ∷ []) (map (λ e. tuples_of_edge e rows) (edge_numbers spec))

-- ---- fragments

-- the physical stripe on which a row falls: that of its edge's class
abbrev pub row_stripe : Spec → EdgeRow → ℕ
row_stripe spec row = physical_stripe spec (class_of spec row.0) row.1

-- the rows that fall on the stripes
abbrev pub on_stripes : Spec → List ℕ → List EdgeRow → List EdgeRow
on_stripes spec stripes rows = filter (λ row. has stripes (row_stripe spec row)) rows

-- the rows of all contents that fall on the stripes
abbrev pub rows_on : Spec → List Pairs → List ℕ → List EdgeRow
rows_on spec r stripes = on_stripes spec stripes (all_rows spec r)

-- the fragment of one stripe
abbrev pub fragment_of : Spec → List Pairs → ℕ → List EdgeRow
fragment_of spec r stripe = rows_on spec r (stripe ∷ [])

-- the numbers of all stripes
abbrev pub all_stripes : Spec → List ℕ
all_stripes spec = range_with_len 0 (stripe_total spec)
