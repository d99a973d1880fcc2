-- Routes, and when one is good for a need: the edges can be read in turn, and visit the columns of the need. (PLDI 2011, valid query plans.)
use Rattle.std.specs.Prelude.{◌≡◌, ℕ, ◌<◌, List, [], ◌∷◌, ◌⊎◌, length}
use Rattle.rc_route.specs.Imports.{range_with_len, In, Within, union, Spec, IsLossless, edge_at, target_columns}

-- the edges in written order
abbrev pub all_edges : Spec → List ℕ
all_edges spec = range_with_len 0 (length spec.edges)

-- An edge can be read behind edges that reached these nodes and visited these columns: it begins at the root or at a node that was reached, and its join loses no tuple.
pub record IsStep (spec : Spec) (reached visited : List ℕ) (e : ℕ) : Type 0 where
  pub known : e < length spec.edges
  pub source : ((edge_at spec e).from ≡ 0) ⊎ In (edge_at spec e).from reached
  pub lossless : IsLossless spec visited (target_columns spec e)

-- each of the edges can be read in turn, and at the end the need was visited
abbrev pub IsGoodFrom : Spec → List ℕ → List ℕ → List ℕ → List ℕ → Type 0
IsGoodFrom spec need reached visited [] = Within need visited
IsGoodFrom spec need reached visited (e ∷ es) =
    IsStep spec reached visited e × IsGoodFrom spec need ((edge_at spec e).to ∷ reached) (union visited (target_columns spec e)) es

-- a route, as a list of edges by number, that is good for a need
abbrev pub IsGoodRoute : Spec → List ℕ → List ℕ → Type 0
IsGoodRoute spec need route = IsGoodFrom spec need [] [] route
