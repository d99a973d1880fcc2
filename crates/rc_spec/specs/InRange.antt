-- When the counts and the numbers of a specification are in range.
use Rattle.std.specs.Prelude.{◌≡◌, ℕ, ◌<◌, ◌≤◌, List, [], length}
use Rattle.rc_spec.specs.Imports.{In, IsColSet, Dep}
use Rattle.rc_spec.specs.declared.items.Node.{Node}
use Rattle.rc_spec.specs.declared.items.Edge.{Edge}
use Rattle.rc_spec.specs.declared.items.Class.{Class}
use Rattle.rc_spec.specs.declared.items.Place.{Place}
use Rattle.rc_spec.specs.declared.items.Op.{Op}
use Rattle.rc_spec.specs.declared.items.OpKind.{OpKind}
use Rattle.rc_spec.specs.declared.items.OpKind.TheVariants as kinds
use Rattle.rc_spec.specs.declared.spec.Spec.{Spec}
use Rattle.rc_spec.specs.Ranges.{range_columns}

-- each number of the list is below the limit
abbrev pub AreBelow : ℕ → List ℕ → Type 0
AreBelow limit numbers = (n : ℕ) → In n numbers → n < limit

-- a set of columns below the limit
pub record IsSetBelow (limit : ℕ) (cols : List ℕ) : Type 0 where
  pub set : IsColSet cols
  pub below : AreBelow limit cols

-- a dependency among so many columns, with a right side
pub record IsDepAmong (columns : ℕ) (dep : Dep) : Type 0 where
  pub left : IsSetBelow columns dep.left
  pub right : IsSetBelow columns dep.right
  pub has_right : dep.right ≡ [] → ⊥

-- an edge among so many nodes and columns
pub record IsEdgeAmong (nodes columns : ℕ) (edge : Edge) : Type 0 where
  pub from : edge.from < nodes
  pub to : edge.to < nodes
  pub key : IsSetBelow columns edge.key

-- a placement of one of so many edges on one of so many classes
pub record IsPlaceAmong (edges classes : ℕ) (place : Place) : Type 0 where
  pub edge : place.edge < edges
  pub class : place.class < classes

abbrev pub HasOutsAmong : ℕ → OpKind → Type 0
HasOutsAmong columns (kinds.Query outs ranges) = AreBelow columns outs
HasOutsAmong columns kinds.Insert = Unit {0}
HasOutsAmong columns kinds.Remove = Unit {0}
HasOutsAmong columns kinds.Update = Unit {0}

-- an operation over so many columns
pub record IsOpAmong (columns : ℕ) (op : Op) : Type 0 where
  pub pattern : AreBelow columns op.pattern
  pub outs : HasOutsAmong columns op.kind
  pub ranges : AreBelow columns (range_columns op.kind)

-- every count keeps its limit, and every number is one of the specification's own
pub record IsInRange (spec : Spec) : Type 0 where
  pub columns : length spec.columns ≤ 32
  pub deps : length spec.deps ≤ 32
  pub nodes : length spec.nodes ≤ 16
  pub edges : length spec.edges ≤ 24
  pub classes : length spec.classes ≤ 16
  pub places : length spec.places ≤ 24
  pub ops : length spec.ops ≤ 64
  pub known_deps : (dep : Dep) → In dep spec.deps → IsDepAmong (length spec.columns) dep
  pub known_nodes : (node : Node) → In node spec.nodes → IsSetBelow (length spec.columns) node.cols
  pub known_edges : (edge : Edge) → In edge spec.edges → IsEdgeAmong (length spec.nodes) (length spec.columns) edge
  pub known_classes : (class : Class) → In class spec.classes → IsSetBelow (length spec.columns) class.cols
  pub known_places : (place : Place) → In place spec.places → IsPlaceAmong (length spec.edges) (length spec.classes) place
  pub known_ops : (op : Op) → In op spec.ops → IsOpAmong (length spec.columns) op

-- there are a column and a node
pub record HasColumnAndNode (spec : Spec) : Type 0 where
  pub column : 0 < length spec.columns
  pub node : 0 < length spec.nodes

-- a specification in range, with a column and a node
pub record IsWellFormed (spec : Spec) : Type 0 where
  pub in_range : IsInRange spec
  pub populated : HasColumnAndNode spec
