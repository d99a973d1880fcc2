-- A row by its values: those at the columns of its edge's source, of its key, and of the target's other columns.
use Rattle.std.specs.Prelude.{◌≡◌, ℕ, List, length, map}
use Rattle.rc_fragment.specs.Imports.{zip, In, IsColSet, Within, union, minus, Pairs, cols_of, project, merge}
use Rattle.rc_fragment.specs.declared.shape.EdgeShape.{EdgeShape}

-- the values at those of the columns that the tuple has, in column order
abbrev pub values_at : List ℕ → Pairs → List ℕ
values_at cols t = map (λ p. p.1) (project cols t)

-- the columns of the target that neither source nor key has
abbrev pub extra_columns : EdgeShape → List ℕ
extra_columns shape = minus shape.target (union shape.source shape.key)

-- the row with these values at the columns of source and key and at the extra ones
abbrev pub row_from : EdgeShape → List ℕ → List ℕ → List ℕ → Pairs
row_from shape source key extra = merge (merge (zip shape.source source) (zip shape.key key)) (zip (extra_columns shape) extra)

-- the row is over the target's columns and has these values
pub record HasValues (shape : EdgeShape) (row : Pairs) (source key extra : List ℕ) : Type 0 where
  pub columns : cols_of row ≡ shape.target
  pub source_is : values_at shape.source row ≡ source
  pub key_is : values_at shape.key row ≡ key
  pub extra_is : values_at (extra_columns shape) row ≡ extra

-- the columns are sets; the key has no column of the source, and the target has the columns of both
pub record IsParted (shape : EdgeShape) : Type 0 where
  pub source : IsColSet shape.source
  pub key : IsColSet shape.key
  pub target : IsColSet shape.target
  pub apart : (c : ℕ) → In c shape.key → In c shape.source → ⊥
  pub source_within : Within shape.source shape.target
  pub key_within : Within shape.key shape.target

-- each list has this length
abbrev pub HaveWidth : ℕ → List (List ℕ) → Type 0
HaveWidth n lists = (s : List ℕ) → In s lists → length s ≡ n
