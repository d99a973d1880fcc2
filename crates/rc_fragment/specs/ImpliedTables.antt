-- What the edge table of a fragment says of edges whose rows others tell.
use Rattle.std.specs.Prelude.{◌≡◌, ◌<◌, ◌^◌, ℕ, suc, ◌&&◌, ◌==◌, Bool, true, false, cond, List, [], ◌∷◌, ◌++◌, Option, None, Some, length}
use Rattle.rc_fragment.specs.Imports.{Pairs, project, EdgeRow}
use Rattle.rc_fragment.specs.Fragment.{HasShape}
use Rattle.rc_fragment.specs.Implied.{Implied, NumberedRow, with_all}
use Rattle.rc_fragment.specs.RowValues.{IsParted}
use Rattle.rc_fragment.specs.declared.shape.EdgeShape.{EdgeShape}

-- the edges whose rows others tell, of a table whose first edge has this number
abbrev pub implied_at : ℕ → Option ℕ → List ℕ → List Implied
implied_at n None columns = []
implied_at n (Some lower) columns = record { upper = n; lower = lower; columns = columns } ∷ []

abbrev pub implied_from : ℕ → List EdgeShape → List Implied
implied_from n [] = []
implied_from n (shape ∷ table) = implied_at n shape.lower shape.target ++ implied_from (suc n) table

abbrev pub implied_in : List EdgeShape → List Implied
implied_in table = implied_from 0 table

-- the rows of all edges, by those that are kept
abbrev pub full_rows : List EdgeShape → List EdgeRow → List EdgeRow
full_rows table rows = with_all (implied_in table) rows

-- what makes the lower edge's rows tell the upper one's: they are of one class, the sources of the one are the targets of the other, and a row of the upper one is its key, which has columns
pub record IsLowerOf (upper lower : EdgeShape) : Type 0 where
  pub kept : lower.lower ≡ None
  pub class : lower.class ≡ upper.class
  pub source : lower.source ≡ upper.target
  pub root : upper.source ≡ []
  pub key : upper.key ≡ upper.target
  pub some : 0 < length upper.key

-- its edges have numbers of a byte; each edge's columns are parted, and each edge whose rows another tells is above it
pub record IsTable (table : List EdgeShape) : Type 0 where
  pub few : length table < 2 ^ 8
  pub parted : (e : ℕ) (shape : EdgeShape) → HasShape table e shape → IsParted shape
  pub lower : (e l : ℕ) (upper : EdgeShape) → HasShape table e upper → upper.lower ≡ Some l → (lower : EdgeShape) × HasShape table l lower × IsLowerOf upper lower

-- a tuple's rows of the edges that pass a test, of a table whose first edge has this number
abbrev pub numbered_rows : (EdgeShape → Bool) → ℕ → List EdgeShape → Pairs → List NumberedRow
numbered_rows p n [] t = []
numbered_rows p n (shape ∷ table) t = cond (p shape) ((n, project shape.target t) ∷ numbered_rows p (suc n) table t) (numbered_rows p (suc n) table t)

-- whether the edge is of the class
abbrev pub is_of_class : ℕ → EdgeShape → Bool
is_of_class class shape = shape.class == class

-- whether its rows are kept
abbrev pub is_kept : Option ℕ → Bool
is_kept None = true
is_kept (Some lower) = false

-- whether the edge is of the class, and its rows are kept
abbrev pub is_kept_of_class : ℕ → EdgeShape → Bool
is_kept_of_class class shape = shape.class == class && is_kept shape.lower

-- the tuple's rows of all edges of the class, and of those whose rows are kept
abbrev pub class_rows : List EdgeShape → ℕ → Pairs → List NumberedRow
class_rows table class t = numbered_rows (is_of_class class) 0 table t

abbrev pub kept_class_rows : List EdgeShape → ℕ → Pairs → List NumberedRow
kept_class_rows table class t = numbered_rows (is_kept_of_class class) 0 table t
