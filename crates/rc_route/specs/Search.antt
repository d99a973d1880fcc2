-- What a search for least paths keeps: the least path to each node, by cost and then by the edges from the last one back.
use Rattle.std.specs.Prelude.{◌≡◌, ℕ, ◌+◌, ◌<◌, ◌≤◌, List, [], ◌⊎◌, length, reverse, get_or, Option, MatchOption}
use Rattle.rc_route.specs.Imports.{Ordering, Less, nat_cmp, ordering_then, slice_cmp, In, Within, Spec, bound, edge_at}
use Rattle.rc_route.specs.Paths.{IsPath, cost, edge_cost}

-- of the numbers below a limit for which P holds, the first of those that cost least
pub record IsFirstLeast (P : ℕ → Type 0) (price : ℕ → ℕ) (limit n : ℕ) : Type 0 where
  pub below : n < limit
  pub holds : P n
  pub least : (k : ℕ) → k < limit → P k → price n ≤ price k
  pub first : (k : ℕ) → k < n → P k → price n < price k

-- that number, or none where P holds of no number below the limit
abbrev pub IsFirstLeastOrNone : (ℕ → Type 0) → (ℕ → ℕ) → ℕ → Option ℕ → Type 0
IsFirstLeastOrNone P price limit found = MatchOption found ((k : ℕ) → k < limit → P k → ⊥) (IsFirstLeast P price limit)

-- the path in a table of paths by their last nodes
abbrev pub path_at : List (List ℕ) → ℕ → List ℕ
path_at paths v = get_or paths v []

-- of paths to one node: by cost, then by the edges from the last one back
abbrev pub back_cmp : Spec → List ℕ → List ℕ → List ℕ → Ordering
back_cmp spec pattern p q = ordering_then (nat_cmp (cost spec pattern p) (cost spec pattern q)) (slice_cmp nat_cmp (reverse p) (reverse q))

-- the path to a node that comes before every other
pub record IsLeastTo (spec : Spec) (pattern : List ℕ) (v : ℕ) (path : List ℕ) : Type 0 where
  pub leads : IsPath spec 0 v path
  pub least : (other : List ℕ) → IsPath spec 0 v other → (path ≡ other) ⊎ (back_cmp spec pattern path other ≡ Less)

-- the edge ends at the node
abbrev pub EndsAt : Spec → ℕ → ℕ → Type 0
EndsAt spec v e = (edge_at spec e).to ≡ v

-- what the edge costs behind the path to its source
abbrev pub cost_by : Spec → List ℕ → List (List ℕ) → ℕ → ℕ
cost_by spec pattern paths e = cost spec pattern (path_at paths (edge_at spec e).from) + edge_cost spec pattern e

-- the node binds the need
abbrev pub Binds : Spec → List ℕ → ℕ → Type 0
Binds spec need v = Within need (bound spec v)

-- the cost of the path to a node
abbrev pub cost_to : Spec → List ℕ → List (List ℕ) → ℕ → ℕ
cost_to spec pattern paths v = cost spec pattern (path_at paths v)

-- a path for each node, which is the least for each of these nodes
pub record AreLeastPaths (spec : Spec) (pattern : List ℕ) (done : List ℕ) (paths : List (List ℕ)) : Type 0 where
  pub count : length paths ≡ length spec.nodes
  pub each : (v : ℕ) → v < length spec.nodes → In v done → IsLeastTo spec pattern v (path_at paths v)
