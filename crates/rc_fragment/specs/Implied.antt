-- Rows that need not be kept: those of an edge whose targets are the sources of another edge's rows. The other edge's rows tell them.
use Rattle.std.specs.Prelude.{◌≡◌, Bool, ℕ, ◌+◌, ◌==◌, ◌&&◌, List, [], ◌∷◌, ◌++◌, cond, filter, map, not}
use Rattle.rc_fragment.specs.Imports.{In, gather, Pairs, project, tuple_eq, is_row_at, lowered, raised, EdgeRow, edge_row_cmp, tuples_of_edge}

-- an edge, the one whose rows tell its rows, and the columns of its target
pub record Implied : Type 0 where
  pub upper : ℕ
  pub lower : ℕ
  pub columns : List ℕ

-- what a row adds to the count of a tuple of the upper edge: its own count, where it is of the lower edge and projects on the tuple
abbrev pub share : Implied → Pairs → EdgeRow → ℕ
share i t w = cond (w.0 == i.lower && tuple_eq (project i.columns w.1) t) w.2 0

-- the count of a tuple of the upper edge, by the rows of the lower one
abbrev pub total : Implied → Pairs → List EdgeRow → ℕ
total i t [] = 0
total i t (w ∷ ws) = share i t w + total i t ws

-- the rows of the upper edge
abbrev pub implied_rows : Implied → List EdgeRow → List EdgeRow
implied_rows i ws = map (λ t. (i.upper, t, total i t ws)) (map (project i.columns) (tuples_of_edge i.lower ws))

-- the rows with those of the upper edge, which the lower edge's tell
abbrev pub with_implied : Implied → List EdgeRow → List EdgeRow
with_implied i ws = gather edge_row_cmp (implied_rows i ws ++ filter (λ w. not (w.0 == i.upper)) ws)

-- the rows with all that they imply
abbrev pub with_all : List Implied → List EdgeRow → List EdgeRow
with_all [] ws = ws
with_all (i ∷ is) ws = with_implied i (with_all is ws)

-- each upper edge has one lower edge, and no lower edge is an upper one
pub record AreImplications (is : List Implied) : Type 0 where
  pub once : (i j : Implied) → In i is → In j is → i.upper ≡ j.upper → i ≡ j
  pub apart : (i j : Implied) → In i is → In j is → i.lower ≡ j.upper → ⊥

-- a row of the edge with this number
abbrev pub NumberedRow : Type 0
NumberedRow = ℕ × Pairs

-- the counts of rows of some edges raised by 1, and lowered by 1
abbrev pub raised_all : List NumberedRow → List EdgeRow → List EdgeRow
raised_all [] ws = ws
raised_all (p ∷ ps) ws = raised_all ps (raised p.0 p.1 ws)

abbrev pub lowered_all : List NumberedRow → List EdgeRow → List EdgeRow
lowered_all [] ws = ws
lowered_all (p ∷ ps) ws = lowered_all ps (lowered p.0 p.1 ws)

-- how many of them are this row
abbrev pub hits : ℕ → Pairs → List NumberedRow → ℕ
hits e t [] = 0
hits e t (p ∷ ps) = cond (is_row_at e t (p.0, p.1, 0)) 1 0 + hits e t ps

-- whether a row of the edge with this number is one of the lower edge's that projects on the tuple
abbrev pub is_under : Implied → Pairs → ℕ → Pairs → Bool
is_under i t e row = e == i.lower && tuple_eq (project i.columns row) t

-- how many of them are rows of the lower edge that project on the tuple
abbrev pub unders : Implied → Pairs → List NumberedRow → ℕ
unders i t [] = 0
unders i t (p ∷ ps) = cond (is_under i t p.0 p.1) 1 0 + unders i t ps
