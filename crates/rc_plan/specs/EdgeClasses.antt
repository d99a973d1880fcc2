-- The lock classes of a specification's edges.
use Rattle.std.specs.Prelude.{◌≡◌, ℕ, ◌==◌, ◌≤◌, ◌++◌, List, [], ◌∷◌, cond, filter, length, take}
use Rattle.rc_plan.specs.Imports.{fold, has, Spec, edge_numbers, class_of}
use Rattle.rc_plan.specs.Resolved.{AllBelow}
use Rattle.rc_plan.specs.declared.edge_classes.EdgeClasses.{EdgeClasses}

-- the edges of the class
abbrev pub class_edges : Spec → ℕ → List ℕ
class_edges spec c = filter (λ e. class_of spec e == c) (edge_numbers spec)

-- the classes, with one more, which may stand among them already
abbrev pub with_class : List ℕ → ℕ → List ℕ
with_class classes c = cond (has classes c) classes (classes ++ c ∷ [])

-- the classes of the edges, each once, in the order in which the edges come to them
abbrev pub classes_of : Spec → List ℕ → List ℕ
classes_of spec edges = fold (λ classes e. with_class classes (class_of spec e)) [] edges

-- how many edges each class has, by its number
abbrev pub AreEdgeCounts : Spec → List ℕ → Type 0
AreEdgeCounts spec counts = AllBelow (λ class count. count ≡ length (class_edges spec class)) (length spec.classes) counts

-- the classes that are kept, in their order
abbrev pub classes_kept : EdgeClasses → List ℕ
classes_kept kept = take kept.len kept.classes

-- the classes of all edges, and how many edges each class has
pub record AreEdgeClasses (spec : Spec) (kept : EdgeClasses) : Type 0 where
  pub few : kept.len ≤ length kept.classes
  pub classes : classes_kept kept ≡ classes_of spec (edge_numbers spec)
  pub counts : AreEdgeCounts spec kept.counts
