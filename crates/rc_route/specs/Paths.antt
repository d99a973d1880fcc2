-- Paths from the root, their cost, and the least path that binds a need.
use Rattle.std.specs.Prelude.{◌≡◌, ℕ, ◌+◌, ◌<◌, List, [], ◌∷◌, ◌⊎◌, length, reverse, if◌then◌else◌}
use Rattle.rc_route.specs.Imports.{sum_by, Ordering, Less, nat_cmp, ordering_then, slice_cmp, Within, is_within, union, EdgeKind, Spec, bound, edge_at, class_at, class_of, striping}
use Rattle.rc_spec.specs.declared.items.EdgeKind.TheVariants as kinds
use Rattle.rc_route.specs.PrunedWalk.{IsPrunedWalk}

-- ---- paths

-- edges by number that lead from a node to another, each from where the one before ends
abbrev pub IsPath : Spec → ℕ → ℕ → List ℕ → Type 0
IsPath spec u v [] = u ≡ v
IsPath spec u v (e ∷ es) = (e < length spec.edges) × ((edge_at spec e).from ≡ u) × IsPath spec (edge_at spec e).to v es

-- the last node of a path that begins at u
abbrev pub end_of : Spec → ℕ → List ℕ → ℕ
end_of spec u [] = u
end_of spec u (e ∷ es) = end_of spec (edge_at spec e).to es

-- a path that begins at the root
abbrev pub IsPathFromRoot : Spec → List ℕ → Type 0
IsPathFromRoot spec path = IsPath spec 0 (end_of spec 0 path) path

-- ---- costs

-- a read by the key, and a read of all rows
abbrev pub lookup_cost : EdgeKind → ℕ
lookup_cost kinds.Hash = 1
lookup_cost kinds.Ordered = 2
lookup_cost kinds.List = 4
lookup_cost kinds.Singleton = 1

abbrev pub scan_cost : EdgeKind → ℕ
scan_cost kinds.Hash = 32
scan_cost kinds.Ordered = 32
scan_cost kinds.List = 32
scan_cost kinds.Singleton = 1

-- the read of an edge where the columns of a pattern are bound
abbrev pub read_cost : Spec → List ℕ → ℕ → ℕ
read_cost spec pattern e = if is_within (edge_at spec e).key pattern then lookup_cost (edge_at spec e).kind else scan_cost (edge_at spec e).kind

-- its locks: one stripe where pattern and source have the columns of the edge's class, else all stripes
abbrev pub lock_cost : Spec → List ℕ → ℕ → ℕ
lock_cost spec pattern e = if is_within (striping spec e) (union pattern (bound spec (edge_at spec e).from)) then 1 else (class_at spec (class_of spec e)).stripes

abbrev pub edge_cost : Spec → List ℕ → ℕ → ℕ
edge_cost spec pattern e = read_cost spec pattern e + lock_cost spec pattern e

abbrev pub cost : Spec → List ℕ → List ℕ → ℕ
cost spec pattern path = sum_by (edge_cost spec pattern) path

-- ---- the least path

-- by cost, then by the last node, then by the edges from the last one back
abbrev pub path_cmp : Spec → List ℕ → List ℕ → List ℕ → Ordering
path_cmp spec pattern p q =
    ordering_then (nat_cmp (cost spec pattern p) (cost spec pattern q))
    (ordering_then (nat_cmp (end_of spec 0 p) (end_of spec 0 q)) (slice_cmp nat_cmp (reverse p) (reverse q)))

-- a path from the root whose last node binds the need
pub record IsPathFor (spec : Spec) (need path : List ℕ) : Type 0 where
  pub from_root : IsPathFromRoot spec path
  pub binds : Within need (bound spec (end_of spec 0 path))

-- the path for the need that comes before every other
pub record IsLeastPath (spec : Spec) (pattern need path : List ℕ) : Type 0 where
  pub path_for : IsPathFor spec need path
  pub least : (other : List ℕ) → IsPathFor spec need other → (path ≡ other) ⊎ (path_cmp spec pattern path other ≡ Less)

-- some node binds the need
abbrev pub SomeNodeBinds : Spec → List ℕ → Type 0
SomeNodeBinds spec need = (v : ℕ) × (v < length spec.nodes) × Within need (bound spec v)

-- ---- the chosen route

-- the least path where some node binds the need, else the pruned walk
pub data IsChosenRoute (spec : Spec) (pattern need route : List ℕ) : Type 0 where
  Least : IsLeastPath spec pattern need route → IsChosenRoute spec pattern need route
  Pruned : (SomeNodeBinds spec need → ⊥) → IsPrunedWalk spec need route → IsChosenRoute spec pattern need route
