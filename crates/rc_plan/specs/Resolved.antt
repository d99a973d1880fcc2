-- What plans ask of the edges and the lock classes of a specification, found once for all calls.
use Rattle.std.specs.Prelude.{◌≡◌, ℕ, ◌+◌, ◌<◌, ◌≤◌, List, Some, length}
use Rattle.rc_plan.specs.Imports.{slice_get, minus, bound, edge_at, source_and_key, class_of, band_start, Spec}
use Rattle.rc_plan.specs.declared.resolved.ResolvedEdge.{ResolvedEdge}

-- what is told of the edge is the specification's
pub record IsResolvedEdge (spec : Spec) (e : ℕ) (r : ResolvedEdge) : Type 0 where
  pub class : r.class ≡ class_of spec e
  pub start : r.start ≡ band_start spec (class_of spec e)
  pub source : r.source ≡ bound spec (edge_at spec e).from
  pub key : r.key ≡ (edge_at spec e).key
  pub target : r.target ≡ bound spec (edge_at spec e).to
  pub extra : r.extra ≡ minus (bound spec (edge_at spec e).to) (source_and_key spec (edge_at spec e))
  pub keys : r.keys ≡ length r.key
  pub extras : r.extras ≡ length r.extra
  -- of columns below 32 no set has more than 32
  pub few : r.keys + r.extras ≤ 64

-- at each number below n stands something of which this holds
pub record AllBelow {X : Type 0} (holds : ℕ → X → Type 0) (n : ℕ) (items : List X) : Type 0 where
  pub count : n ≤ length items
  pub each : (i : ℕ) (x : X) → i < n → slice_get items i ≡ Some x → holds i x

-- each edge, by its number
abbrev pub AreResolvedEdges : Spec → List ResolvedEdge → Type 0
AreResolvedEdges spec edges = AllBelow (IsResolvedEdge spec) (length spec.edges) edges

-- the first stripe of each class, by its number
abbrev pub AreBandStarts : Spec → List ℕ → Type 0
AreBandStarts spec starts = AllBelow (λ class start. start ≡ band_start spec class) (length spec.classes) starts
