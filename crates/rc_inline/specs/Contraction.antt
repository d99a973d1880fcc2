-- Which edges can be inlined, and what their contraction leaves of a specification. (Of graphs: edge
-- contraction.)
use Rattle.std.specs.Prelude.{ℕ, ◌-◌, ◌==◌, ◌&&◌, nat_lt, not, Bool, true, false, map, filter, Option, if◌then◌else◌}
use Rattle.rc_inline.specs.Imports.{count_by, position, remove, Edge, EdgeKind, Hash, Ordered, Singleton, Place, Spec, edge_at}
use Rattle.rc_spec.specs.declared.items.EdgeKind.TheVariants.{List as Listed}

-- how many edges lead to the node, and from it
abbrev pub edges_into : Spec → ℕ → ℕ
edges_into spec v = count_by (λ e. e.to == v) spec.edges

abbrev pub edges_out_of : Spec → ℕ → ℕ
edges_out_of spec v = count_by (λ e. e.from == v) spec.edges

abbrev pub is_singleton : EdgeKind → Bool
is_singleton Hash = false
is_singleton Ordered = false
is_singleton Listed = false
is_singleton Singleton = true

-- a singleton that alone leads from its source, to which one edge leads
abbrev pub is_inlinable : Spec → Edge → Bool
is_inlinable spec e =
    is_singleton e.kind && (edges_into spec e.from == 1 && edges_out_of spec e.from == 1)

abbrev pub first_inlinable : Spec → Option ℕ
first_inlinable spec = position (is_inlinable spec) spec.edges

-- the number of what has the number n, when what has the other is gone
abbrev pub renumbered : ℕ → ℕ → ℕ
renumbered gone n = if nat_lt gone n then n - 1 else n

-- the edge when another is gone, with its source: where it led to that source it leads to the
-- other's target
abbrev pub rejoined : Edge → Edge → Edge
rejoined gone e =
    record e {
      from = renumbered gone.from e.from;
      to = renumbered gone.from (if e.to == gone.from then gone.to else e.to);
    }

-- the placement when the edge with the number `gone` is gone, which is another
abbrev pub renumbered_place : ℕ → Place → Place
renumbered_place gone place = record place { edge = renumbered gone place.edge }

-- the specification without the edge and its source
abbrev pub contracted : Spec → ℕ → Spec
contracted spec f = record spec {
  nodes = remove spec.nodes (edge_at spec f).from;
  edges = map (rejoined (edge_at spec f)) (remove spec.edges f);
  places = map (renumbered_place f) (filter (λ place. not (place.edge == f)) spec.places);
}
