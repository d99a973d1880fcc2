-- The topological order of a decomposition's nodes, of those that could come next always the first written.
use Rattle.std.specs.Prelude.{◌≡◌, ℕ, ◌<◌, ◌≤◌, List, Some, length, take, get_or}
use Rattle.rc_spec.specs.Imports.{slice_get, In, AreDistinct}
use Rattle.rc_spec.specs.declared.items.Edge.{Edge}
use Rattle.rc_spec.specs.declared.spec.Spec.{Spec}
use Rattle.rc_spec.specs.Acceptance.{IsSealed}
use Rattle.rc_spec.specs.InRange.{AreBelow}

-- each edge that ends at the node begins at one of those before
abbrev pub AreSourcesBefore : Spec → List ℕ → ℕ → Type 0
AreSourcesBefore spec before v = (e : Edge) → In e spec.edges → e.to ≡ v → In e.from before

-- the node can come right after those before
pub record CanBeNext (spec : Spec) (before : List ℕ) (v : ℕ) : Type 0 where
  pub known : v < length spec.nodes
  pub new : In v before → ⊥
  pub sources : AreSourcesBefore spec before v

-- the first written of the nodes that can come next
pub record IsNext (spec : Spec) (before : List ℕ) (v : ℕ) : Type 0 where
  pub can : CanBeNext spec before v
  pub first : (w : ℕ) → CanBeNext spec before w → v ≤ w

-- all nodes, each of them next after those before it
pub record IsTopologicalOrder (spec : Spec) (order : List ℕ) : Type 0 where
  pub all : (v : ℕ) → v < length spec.nodes → In v order
  pub next : (k : ℕ) → k < length order → IsNext spec (take k order) (get_or order k 0)

-- the edge's source stands before its target
abbrev pub LeadsForward : List ℕ → Edge → Type 0
LeadsForward order e = (i : ℕ) × (j : ℕ) × (i < j) × (slice_get order i ≡ Some e.from) × (slice_get order j ≡ Some e.to)

-- each node once, and nothing else
pub record HasEachNodeOnce (spec : Spec) (order : List ℕ) : Type 0 where
  pub each : (v : ℕ) → v < length spec.nodes → In v order
  pub once : AreDistinct order
  pub known : AreBelow (length spec.nodes) order

-- a specification that meets all rules, with its nodes in topological order
pub record IsSealedWith (spec : Spec) (order : List ℕ) : Type 0 where
  pub sealed : IsSealed spec
  pub topological : IsTopologicalOrder spec order
