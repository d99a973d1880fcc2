-- The names of what is left.
use Rattle.std.proofs.Common.{◌≡◌, ℕ, List, [], ◌∷◌, map, refl, sym, ap, ◌∙◌, subst}
use Rattle.rc_inline.specs.Imports.{remove, Edge, Spec, edge_at, AreNames, IsWellNamed, edge_names, node_names}
use Rattle.rc_inline.specs.Contraction.{contracted, rejoined}
use Rattle.rc_inline.specs.RemovedLaws.{distinct_removed, in_removed, map-removed}

names_removed : (names : List (List ℕ)) (i : ℕ) → AreNames names → AreNames (remove names i)
names_removed names i are = record {
  each = λ name m. are.each name (in_removed names i name m);
  distinct = distinct_removed names i are.distinct;
}

rejoined-names : (gone : Edge) (edges : List Edge) → edge_names (map (rejoined gone) edges) ≡ edge_names edges
rejoined-names gone [] = refl
rejoined-names gone (e ∷ edges) = ap (λ names. e.name ∷ names) (rejoined-names gone edges)

-- a contraction keeps names apart
pub contracted_named : (spec : Spec) (f : ℕ) → IsWellNamed spec → IsWellNamed (contracted spec f)
contracted_named spec f named = record {
  columns = named.columns;
  nodes =
      let w = (edge_at spec f).from in
      subst AreNames (sym (map-removed (λ node. node.name) spec.nodes w)) (names_removed (node_names spec.nodes) w named.nodes);
  edges =
      subst AreNames
      (sym (rejoined-names (edge_at spec f) (remove spec.edges f) ∙ map-removed (λ edge. edge.name) spec.edges f))
      (names_removed (edge_names spec.edges) f named.edges);
  classes = named.classes;
  ops = named.ops;
  patterns = named.patterns;
}
