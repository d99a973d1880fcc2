-- When the edges of a decomposition are well placed on lock classes (PLDI 2012, lock placement and striping), and the rules of operations.
use Rattle.std.specs.Prelude.{◌≡◌, ℕ, ◌+◌, ◌<◌, ◌≤◌, ◌==◌, List, [], length, filter, take, get_or}
use Rattle.rc_spec.specs.Imports.{find, sum_by, option_map_or, nat_cmp, AreDistinct, gather, Within, Follows}
use Rattle.rc_spec.specs.declared.items.Class.{Class}
use Rattle.rc_spec.specs.declared.items.EdgeKind.TheVariants.{Hash}
use Rattle.rc_spec.specs.declared.items.Op.{Op}
use Rattle.rc_spec.specs.declared.items.OpKind.{OpKind}
use Rattle.rc_spec.specs.declared.items.OpKind.TheVariants.{Query, Insert, Remove, Update}
use Rattle.rc_spec.specs.declared.items.Place.{Place}
use Rattle.rc_spec.specs.declared.spec.Spec.{Spec}
use Rattle.rc_spec.specs.Calls.{all_columns}
use Rattle.rc_spec.specs.Decomposition.{bound, edge_at, source_and_key}

-- what stands where there is no class
abbrev pub no_class : Class
no_class = record { name = []; stripes = 1; cols = [] }

abbrev pub class_at : Spec → ℕ → Class
class_at spec c = get_or spec.classes c no_class

-- the placements of an edge
abbrev pub places_of : Spec → ℕ → List Place
places_of spec e = filter (λ place. place.edge == e) spec.places

-- the class of the edge's first placement, or 0 where it has none
abbrev pub class_of : Spec → ℕ → ℕ
class_of spec e = option_map_or (λ (place : Place). place.class) (find (λ place. place.edge == e) spec.places) 0

-- the columns that choose the stripe of an edge's rows
abbrev pub striping : Spec → ℕ → List ℕ
striping spec e = (class_at spec (class_of spec e)).cols

-- P1: the edge is placed exactly once
abbrev pub KeepsP1 : Spec → ℕ → Type 0
KeepsP1 spec e = length (places_of spec e) ≡ 1

-- P2: source and key hold the columns of the edge's class
abbrev pub KeepsP2 : Spec → ℕ → Type 0
KeepsP2 spec e = Within (striping spec e) (source_and_key spec (edge_at spec e))

-- P3: the class of each edge that ends where this one begins isn't after its class
abbrev pub KeepsP3 : Spec → ℕ → Type 0
KeepsP3 spec f = (e : ℕ) → e < length spec.edges → (edge_at spec e).to ≡ (edge_at spec f).from → class_of spec e ≤ class_of spec f

-- P4: a class with no columns has one stripe
abbrev pub KeepsP4 : Class → Type 0
KeepsP4 class = class.cols ≡ [] → class.stripes ≡ 1

-- P5: an edge whose source hasn't all columns of its class is of kind hash
abbrev pub KeepsP5 : Spec → ℕ → Type 0
KeepsP5 spec e = (Within (striping spec e) (bound spec (edge_at spec e).from) → ⊥) → (edge_at spec e).kind ≡ Hash

-- the stripes of the first classes
abbrev pub stripes_of_first : Spec → ℕ → ℕ
stripes_of_first spec n = sum_by (λ class. class.stripes) (take n spec.classes)

-- P6: the class has a stripe, and there are at most 256 up to it
pub record KeepsP6 (spec : Spec) (c : ℕ) : Type 0 where
  pub some : 0 < (class_at spec c).stripes
  pub few : stripes_of_first spec (c + 1) ≤ 256

-- all rules of placement
pub record IsPlaced (spec : Spec) : Type 0 where
  pub p1 : (e : ℕ) → e < length spec.edges → KeepsP1 spec e
  pub p2 : (e : ℕ) → e < length spec.edges → KeepsP2 spec e
  pub p3 : (e : ℕ) → e < length spec.edges → KeepsP3 spec e
  pub p4 : (c : ℕ) → c < length spec.classes → KeepsP4 (class_at spec c)
  pub p5 : (e : ℕ) → e < length spec.edges → KeepsP5 spec e
  pub p6 : (c : ℕ) → c < length spec.classes → KeepsP6 spec c

-- what stands where there is no operation
abbrev pub no_op : Op
no_op = record { name = []; pattern = []; kind = Remove }

abbrev pub op_at : Spec → ℕ → Op
op_at spec n = get_or spec.ops n no_op

-- O1: an insert's pattern isn't empty
abbrev pub KeepsO1 : Op → Type 0
KeepsO1 op = op.kind ≡ Insert → op.pattern ≡ [] → ⊥

-- a remove and an update find their tuple by a key
abbrev pub FindsByKey : OpKind → Type 0
FindsByKey (Query outs ranges) = ⊥
FindsByKey Insert = ⊥
FindsByKey Remove = Unit {0}
FindsByKey Update = Unit {0}

-- O2: a remove's or an update's pattern determines all columns
abbrev pub KeepsO2 : Spec → Op → Type 0
KeepsO2 spec op = FindsByKey op.kind → Follows spec.deps (gather nat_cmp op.pattern) (all_columns spec)

-- some columns, each once
pub record AreOuts (outs : List ℕ) : Type 0 where
  pub some : outs ≡ [] → ⊥
  pub distinct : AreDistinct outs

-- O3: a query has outputs, and they are distinct
abbrev pub KeepsO3 : Op → Type 0
KeepsO3 op = (outs ranges : List ℕ) → op.kind ≡ Query outs ranges → AreOuts outs

-- the operation keeps its rule
pub record KeepsO (spec : Spec) (op : Op) : Type 0 where
  pub o1 : KeepsO1 op
  pub o2 : KeepsO2 spec op
  pub o3 : KeepsO3 op
