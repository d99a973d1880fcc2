-- A specification with further operations meets all rules where it did without them.
use Rattle.std.proofs.Common.{◌≡◌, ℕ, zero, suc, ◌+◌, ◌-◌, ◌<◌, ◌≤◌, List, [], ◌∷◌, ◌++◌, length, get_or, inl, inr, refl, sym, ap, ◌∙◌, subst, arith}
use Rattle.std.specs.List.{AllByRecursion}
use Rattle.std.proofs.lemmas.Bool.{cases_lt}
use Rattle.std.proofs.lemmas.List.{get_or_append_left, get_or-append_right, length-append}
use Rattle.rc_tuple.specs.RisingSet.{In}
use Rattle.rc_tuple.specs.RisingSetLaws.{in_append}
use Rattle.rc_spec.specs.declared.items.Edge.{Edge}
use Rattle.rc_spec.specs.declared.items.Op.{Op}
use Rattle.rc_spec.specs.declared.spec.Spec.{Spec}
use Rattle.rc_spec.specs.Acceptance.{IsAccepted, IsSealed}
use Rattle.rc_spec.specs.Adequacy.{IsAdequate, KeepsA1}
use Rattle.rc_spec.specs.Decomposition.{IsWalk, IsCircle, LiesOnCircle}
use Rattle.rc_spec.specs.InRange.{IsInRange}
use Rattle.rc_spec.specs.Order.{IsNext, IsTopologicalOrder}
use Rattle.rc_spec.specs.Placement.{IsPlaced, KeepsO, no_op, op_at}
use Rattle.rc_plan.specs.PlanRules.{AreKnown, IsKnown}
use Rattle.rc_plan.specs.declared.statement.Statement.{Statement}
use Rattle.rc_plan.specs.declared.statement.Statement.TheVariants.{Lock, Probe, Read, CheckAbsent, CheckFound, CheckDep, Apply, Emit, Commit, Release}
use Rattle.rc_work.specs.Shapes.{with_operations, IsShapeOf}

-- a specification that is equal, with these operations behind those that it has
pub extended_by : (spec given : Spec) (shapes ops : List Op) → given ≡ spec → ops ≡ given.ops ++ shapes
    → (let made : Spec = record given { ops = ops } in made ≡ with_operations spec shapes)
extended_by spec given shapes ops same is = λ i. record (same i) { ops = (is ∙ ap (λ (s : Spec). s.ops ++ shapes) same) i }

module _ (spec : Spec) (shapes : List Op) where
  abbrev extended : Spec
  extended = with_operations spec shapes

  -- ---- the decomposition

  a1 : (v : ℕ) → KeepsA1 spec v → KeepsA1 extended v
  a1 zero root = record { nothing = root.nothing; no_edge_in = root.no_edge_in; edge_out = root.edge_out }
  a1 (suc v) into = into

  walk : (u v : ℕ) (edges : List Edge) → IsWalk extended u v edges → IsWalk spec u v edges
  walk u v [] same = same
  walk u v (edge ∷ edges) is = (is.0, is.1, walk edge.to v edges is.2)

  circle : (edges : List Edge) → IsCircle extended edges → IsCircle spec edges
  circle [] none = none
  circle (edge ∷ edges) is = walk edge.from edge.from (edge ∷ edges) is

  on_circle : (v : ℕ) → LiesOnCircle extended v → LiesOnCircle spec v
  on_circle v is = (is.0, circle is.0 is.1, is.2)

  adequate : IsAdequate spec → IsAdequate extended
  adequate is = record {
    a1 = λ v below. a1 v (is.a1 v below);
    a2 = λ v below on. is.a2 v below (on_circle v on);
    a3 = λ n below. let kept = is.a3 n below in record { apart = kept.apart; inside = kept.inside };
    a4 = λ n below. is.a4 n below;
    a5 = λ n below. let kept = is.a5 n below in record { no_key = kept.no_key; singleton = kept.singleton };
    a6 = λ n below. let kept = is.a6 n below in record { reached = kept.reached; lossless = kept.lossless };
    a7 = λ c below. is.a7 c below;
  }

  placed : IsPlaced spec → IsPlaced extended
  placed is = record {
    p1 = λ e below. is.p1 e below;
    p2 = λ e below. is.p2 e below;
    p3 = λ e below. is.p3 e below;
    p4 = λ c below. is.p4 c below;
    p5 = λ e below. is.p5 e below;
    p6 = λ c below. let kept = is.p6 c below in record { some = kept.some; few = kept.few };
  }

  -- ---- the operations

  keeps : (op : Op) → KeepsO spec op → KeepsO extended op
  keeps op is = record { o1 = is.o1; o2 = is.o2; o3 = is.o3 }

  module _ (are : AllByRecursion (IsShapeOf spec) shapes) where
    shape_in : (xs : List Op) → AllByRecursion (IsShapeOf spec) xs → (op : Op) → In op xs → IsShapeOf spec op
    shape_in [] all op m = absurd m
    shape_in (x ∷ xs) all op (inl e) = subst (IsShapeOf spec) (sym e) all.0
    shape_in (x ∷ xs) all op (inr m) = shape_in xs all.1 op m

    shape_at : (xs : List Op) → AllByRecursion (IsShapeOf spec) xs → (n : ℕ) → n < length xs → IsShapeOf spec (get_or xs n no_op)
    shape_at [] all n below = absurd (omega arith)
    shape_at (x ∷ xs) all zero below = all.0
    shape_at (x ∷ xs) all (suc n) below = shape_at xs all.1 n (omega arith)

    ops : ((n : ℕ) → n < length spec.ops → KeepsO spec (op_at spec n)) → (n : ℕ) → n < length extended.ops → KeepsO extended (op_at extended n)
    ops own n below = elim (cases_lt n (length spec.ops)) [
      | inl here ↦
          subst (KeepsO extended) (sym (get_or_append_left spec.ops shapes no_op n here)) (keeps (op_at spec n) (own n here))
      | inr further ↦
          let count = length-append spec.ops shapes in
          subst (KeepsO extended) (sym (get_or-append_right spec.ops shapes (length spec.ops) n no_op refl further))
          (keeps (get_or shapes (n - length spec.ops) no_op) (shape_at shapes are (n - length spec.ops) (omega (arith, below, further, count))).keeps)
    ]

    accepted : IsAccepted spec → IsAccepted extended
    accepted is = record { adequate = adequate is.adequate; placed = placed is.placed; ops = ops is.ops }

    in_range : length spec.ops + length shapes ≤ 64 → IsInRange spec → IsInRange extended
    in_range few is = record {
      columns = is.columns;
      deps = is.deps;
      nodes = is.nodes;
      edges = is.edges;
      classes = is.classes;
      places = is.places;
      ops = omega (arith, few, length-append spec.ops shapes);
      known_deps = is.known_deps;
      known_nodes = is.known_nodes;
      known_edges = is.known_edges;
      known_classes = is.known_classes;
      known_places = is.known_places;
      known_ops = λ op m. elim (in_append op spec.ops shapes m) [
        | inl own ↦ is.known_ops op own
        | inr further ↦ (shape_in shapes are op further).among
      ];
    }

    -- a sealed one stays so
    pub sealed_over : length spec.ops + length shapes ≤ 64 → IsSealed spec → IsSealed extended
    sealed_over few is = record {
      in_range = in_range few is.in_range;
      populated = record { column = is.populated.column; node = is.populated.node };
      accepted = accepted is.accepted;
    }

  next : (before : List ℕ) (v : ℕ) → IsNext spec before v → IsNext extended before v
  next before v is = record {
    can = record { known = is.can.known; new = is.can.new; sources = is.can.sources };
    first = λ w can. is.first w (record { known = can.known; new = can.new; sources = can.sources });
  }

  -- and so does the order of its nodes
  pub order_over : (order : List ℕ) → IsTopologicalOrder spec order → IsTopologicalOrder extended order
  order_over order is = record { all = is.all; next = λ k below. next _ _ (is.next k below) }

  -- ---- plans

  known : (x : Statement) → IsKnown spec x → IsKnown extended x
  known (Lock c choice mode) k = k
  known (Probe cols) k = k
  known (Read e mode) k = k
  known CheckAbsent k = k
  known CheckFound k = k
  known (CheckDep dep) k = k
  known Apply k = k
  known Emit k = k
  known Commit k = k
  known (Release c) k = k

  -- what a plan names there is
  pub known_over : (plan : List Statement) → AreKnown spec plan → AreKnown extended plan
  known_over plan are x m = known x (are x m)
