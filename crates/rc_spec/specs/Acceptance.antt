-- When a specification is accepted, and which rule it is refused for: the first broken one.
use Rattle.std.specs.Prelude.{◌≡◌, ℕ, ◌<◌, List, [], ◌∷◌, length, map}
use Rattle.std.specs.List.{AllByRecursion, flat_map, range_with_len}
use Rattle.rc_spec.specs.declared.refusal.Rule.{Rule}
use Rattle.rc_spec.specs.declared.refusal.Rule.TheVariants.{A1, A2, A3, A4, A5, A6, A7, P1, P2, P3, P4, P5, P6, O1, O2, O3}
use Rattle.rc_spec.specs.declared.refusal.Item.{Item}
use Rattle.rc_spec.specs.declared.refusal.Item.TheVariants.{Node, Edge, Column, Lock, Operation}
use Rattle.rc_spec.specs.declared.refusal.ItemKind.{ItemKind}
use Rattle.rc_spec.specs.declared.refusal.ItemKind.TheVariants.{Node as NodeKind, Edge as EdgeKind, Column as ColumnKind, Lock as LockKind, Operation as OperationKind}
use Rattle.rc_spec.specs.declared.refusal.Refusal.{Refusal}
use Rattle.rc_spec.specs.declared.spec.Spec.{Spec}
use Rattle.rc_spec.specs.Adequacy.{KeepsA1, KeepsA2, KeepsA3, KeepsA4, KeepsA5, KeepsA6, KeepsA7, IsAdequate}
use Rattle.rc_spec.specs.Decomposition.{edge_at}
use Rattle.rc_spec.specs.First.{IsFirstFailing}
use Rattle.rc_spec.specs.InRange.{IsInRange, HasColumnAndNode}
use Rattle.rc_spec.specs.Placement.{class_at, op_at, KeepsP1, KeepsP2, KeepsP3, KeepsP4, KeepsP5, KeepsP6, IsPlaced, KeepsO1, KeepsO2, KeepsO3, KeepsO}

-- the item with this number keeps the rule
abbrev pub Keeps : Spec → Rule → ℕ → Type 0
Keeps spec A1 n = KeepsA1 spec n
Keeps spec A2 n = KeepsA2 spec n
Keeps spec A3 n = KeepsA3 spec (edge_at spec n)
Keeps spec A4 n = KeepsA4 spec (edge_at spec n)
Keeps spec A5 n = KeepsA5 spec (edge_at spec n)
Keeps spec A6 n = KeepsA6 spec n
Keeps spec A7 n = KeepsA7 spec n
Keeps spec P1 n = KeepsP1 spec n
Keeps spec P2 n = KeepsP2 spec n
Keeps spec P3 n = KeepsP3 spec n
Keeps spec P4 n = KeepsP4 (class_at spec n)
Keeps spec P5 n = KeepsP5 spec n
Keeps spec P6 n = KeepsP6 spec n
Keeps spec O1 n = KeepsO1 (op_at spec n)
Keeps spec O2 n = KeepsO2 spec (op_at spec n)
Keeps spec O3 n = KeepsO3 (op_at spec n)

abbrev pub number_of : Item → ℕ
number_of (Node n) = n
number_of (Edge n) = n
number_of (Column n) = n
number_of (Lock n) = n
number_of (Operation n) = n

-- the item is one of the specification's
abbrev pub IsItemOf : Spec → Item → Type 0
IsItemOf spec (Node n) = n < length spec.nodes
IsItemOf spec (Edge n) = n < length spec.edges
IsItemOf spec (Column n) = n < length spec.columns
IsItemOf spec (Lock n) = n < length spec.classes
IsItemOf spec (Operation n) = n < length spec.ops

-- of which items a rule speaks
abbrev pub kind_of : Rule → ItemKind
kind_of A1 = NodeKind
kind_of A2 = NodeKind
kind_of A3 = EdgeKind
kind_of A4 = EdgeKind
kind_of A5 = EdgeKind
kind_of A6 = EdgeKind
kind_of A7 = ColumnKind
kind_of P1 = EdgeKind
kind_of P2 = EdgeKind
kind_of P3 = EdgeKind
kind_of P4 = LockKind
kind_of P5 = EdgeKind
kind_of P6 = LockKind
kind_of O1 = OperationKind
kind_of O2 = OperationKind
kind_of O3 = OperationKind

abbrev pub item_of : ItemKind → ℕ → Item
item_of NodeKind = Node
item_of EdgeKind = Edge
item_of ColumnKind = Column
item_of LockKind = Lock
item_of OperationKind = Operation

-- how many items of the kind there are
abbrev pub count_of : Spec → ItemKind → ℕ
count_of spec NodeKind = length spec.nodes
count_of spec EdgeKind = length spec.edges
count_of spec ColumnKind = length spec.columns
count_of spec LockKind = length spec.classes
count_of spec OperationKind = length spec.ops

-- A refusal speaks of a rule and an item: the item keeps the rule. A check is written as the refusal that its failure gives.
abbrev pub IsKept : Spec → Refusal → Type 0
IsKept spec check = Keeps spec check.rule (number_of check.item)

-- ---- the checks, in the order in which they are made

-- some rules of one kind of item, which are tested item by item
pub record Step : Type 0 where
  pub kind : ItemKind
  pub rules : List Rule

abbrev pub step : ItemKind → List Rule → Step
step kind rules = record { kind = kind; rules = rules }

-- The table of acceptance: each rule in its place. A step is tested at all its items before the next one.
abbrev pub steps : List Step
steps =
    step NodeKind (A1 ∷ [])
    ∷ step NodeKind (A2 ∷ [])
    ∷ step EdgeKind (A3 ∷ A4 ∷ A5 ∷ A6 ∷ [])
    ∷ step ColumnKind (A7 ∷ [])
    ∷ step EdgeKind (P1 ∷ [])
    ∷ step EdgeKind (P2 ∷ [])
    ∷ step EdgeKind (P3 ∷ [])
    ∷ step LockKind (P4 ∷ [])
    ∷ step EdgeKind (P5 ∷ [])
    ∷ step LockKind (P6 ∷ [])
    ∷ step OperationKind (O1 ∷ O2 ∷ O3 ∷ [])
    ∷ []

-- each rule of a step speaks of items of its kind
abbrev pub AreOfKind : Step → Type 0
AreOfKind step = AllByRecursion (λ rule. kind_of rule ≡ step.kind) step.rules

-- a rule at an item
abbrev pub check_on : ItemKind → ℕ → Rule → Refusal
check_on kind n rule = record { rule = rule; item = item_of kind n }

-- the rules of a step at one item
abbrev pub item_checks : Step → ℕ → List Refusal
item_checks step n = map (check_on step.kind n) step.rules

-- the rules of a step at all items of its kind, item by item
abbrev pub step_checks : Spec → Step → List Refusal
step_checks spec step = flat_map (item_checks step) (range_with_len 0 (count_of spec step.kind))

abbrev pub checks : Spec → List Refusal
checks spec = flat_map (step_checks spec) steps

-- ---- acceptance

-- the decomposition is adequate and well placed, and each operation keeps its rule
pub record IsAccepted (spec : Spec) : Type 0 where
  pub adequate : IsAdequate spec
  pub placed : IsPlaced spec
  pub ops : (n : ℕ) → n < length spec.ops → KeepsO spec (op_at spec n)

-- the first broken rule, with the first item that breaks it
abbrev pub IsFirstBroken : Spec → Refusal → Type 0
IsFirstBroken spec refusal = IsFirstFailing (IsKept spec) (checks spec) refusal

-- an accepted specification, in range, with a column and a node
pub record IsSealed (spec : Spec) : Type 0 where
  pub in_range : IsInRange spec
  pub populated : HasColumnAndNode spec
  pub accepted : IsAccepted spec
