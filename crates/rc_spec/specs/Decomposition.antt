-- The decomposition of a relation: the columns that nodes bind, and walks and circles of edges.
use Rattle.std.specs.Prelude.{◌≡◌, ℕ, List, [], ◌∷◌, get_or}
use Rattle.rc_spec.specs.Imports.{In, union}
use Rattle.rc_spec.specs.declared.items.Node.{Node}
use Rattle.rc_spec.specs.declared.items.Edge.{Edge}
use Rattle.rc_spec.specs.declared.items.EdgeKind.TheVariants.{Singleton}
use Rattle.rc_spec.specs.declared.spec.Spec.{Spec}

-- what stands where there is no node
abbrev pub no_node : Node
no_node = record { name = []; cols = [] }

abbrev pub node_at : Spec → ℕ → Node
node_at spec v = get_or spec.nodes v no_node

-- the columns that a node binds
abbrev pub bound : Spec → ℕ → List ℕ
bound spec v = (node_at spec v).cols

-- what stands where there is no edge
abbrev pub no_edge : Edge
no_edge = record { name = []; from = 0; to = 0; kind = Singleton; key = [] }

abbrev pub edge_at : Spec → ℕ → Edge
edge_at spec e = get_or spec.edges e no_edge

-- the columns that an edge's target binds
abbrev pub target_columns : Spec → ℕ → List ℕ
target_columns spec e = bound spec (edge_at spec e).to

-- the columns by which a row of an edge is found: those of its source, and its key
abbrev pub source_and_key : Spec → Edge → List ℕ
source_and_key spec e = union (bound spec e.from) e.key

-- edges that lead from a node to another, each from where the one before ends
abbrev pub IsWalk : Spec → ℕ → ℕ → List Edge → Type 0
IsWalk spec u v [] = u ≡ v
IsWalk spec u v (e ∷ es) = In e spec.edges × (e.from ≡ u) × IsWalk spec e.to v es

-- a circle: each of its edges begins where the one before ends, and the last ends where the first begins
abbrev pub IsCircle : Spec → List Edge → Type 0
IsCircle spec [] = ⊥
IsCircle spec (e ∷ es) = IsWalk spec e.from e.from (e ∷ es)

-- one of the edges begins at the node
abbrev pub LiesOn : ℕ → List Edge → Type 0
LiesOn v es = (e : Edge) × In e es × (e.from ≡ v)

abbrev pub LiesOnCircle : Spec → ℕ → Type 0
LiesOnCircle spec v = (es : List Edge) × IsCircle spec es × LiesOn v es
