-- An accepted specification whose edges are moved is accepted, where they keep P3 then.
use Rattle.std.proofs.Common.{◌≡◌, ℕ, zero, suc, List, [], ◌∷◌, ◌++◌, drop, get_or, length, map, refl, take, sym, ◌∙◌, subst, arith}
use Rattle.rc_inline.proofs.Imports.{length-map, Within, In, in_map, Edge, Place, Spec, IsAccepted, IsSealed, IsAdequate, KeepsA1, KeepsA2, KeepsA3, KeepsA5, KeepsA6, IsCircle, IsWalk, bound, edge_at, source_and_key, IsInRange, IsPlaceAmong, IsWellFormed, IsNext, IsTopologicalOrder, IsPlaced, KeepsO, op_at, co_placed, moved, AreOrdered, co_count, co_striping, widest_known}

-- behind the front that is changed a list is what it was
pub at_rest : {A : Type 0} (f : A → A) (xs : List A) (i : ℕ) (d : A) → get_or (map f (take i xs) ++ drop i xs) i d ≡ get_or xs i d
at_rest f [] zero d = refl
at_rest f [] (suc i) d = refl
at_rest f (x ∷ xs) zero d = refl
at_rest f (x ∷ xs) (suc i) d = at_rest f xs i d

module _ (spec : Spec) where
  abbrev after : Spec
  after = co_placed spec

  -- ---- walks and orders are those of the edges, which stay

  walk_same : (es : List Edge) (u v : ℕ) → IsWalk after u v es → IsWalk spec u v es
  walk_same [] u v walk = walk
  walk_same (e ∷ es) u v walk = (walk.0, walk.1, walk_same es e.to v walk.2)

  circle_same : (es : List Edge) → IsCircle after es → IsCircle spec es
  circle_same [] circle = circle
  circle_same (e ∷ es) circle = walk_same (e ∷ es) e.from e.from circle

  next_same : (before : List ℕ) (v : ℕ) → IsNext spec before v → IsNext after before v
  next_same before v next = record {
    can = record { known = next.can.known; new = next.can.new; sources = next.can.sources };
    first = λ w can. next.first w (record { known = can.known; new = can.new; sources = can.sources });
  }

  pub order_same : (order : List ℕ) → IsTopologicalOrder spec order → IsTopologicalOrder after order
  order_same order rising = record { all = rising.all; next = λ k l. next_same _ _ (rising.next k l) }

  -- ---- adequacy speaks of no placement

  a1_same : (v : ℕ) → KeepsA1 spec v → KeepsA1 after v
  a1_same zero root = record { nothing = root.nothing; no_edge_in = root.no_edge_in; edge_out = root.edge_out }
  a1_same (suc v) entered = entered

  a2_same : (v : ℕ) → KeepsA2 spec v → KeepsA2 after v
  a2_same v none on = none (on.0, circle_same on.0 on.1, on.2)

  a3_same : (e : Edge) → KeepsA3 spec e → KeepsA3 after e
  a3_same e rule = record { apart = rule.apart; inside = rule.inside }

  a5_same : (e : Edge) → KeepsA5 spec e → KeepsA5 after e
  a5_same e rule = record { no_key = rule.no_key; singleton = rule.singleton }

  a6_same : (n : ℕ) → KeepsA6 spec n → KeepsA6 after n
  a6_same n rule = record { reached = rule.reached; lossless = rule.lossless }

  adequate_same : IsAdequate spec → IsAdequate after
  adequate_same rules = record {
    a1 = λ v l. a1_same v (rules.a1 v l);
    a2 = λ v l. a2_same v (rules.a2 v l);
    a3 = λ n l. a3_same (edge_at spec n) (rules.a3 n l);
    a4 = rules.a4;
    a5 = λ n l. a5_same (edge_at spec n) (rules.a5 n l);
    a6 = λ n l. a6_same n (rules.a6 n l);
    a7 = rules.a7;
  }

  ops_same : (n : ℕ) → KeepsO spec (op_at spec n) → KeepsO after (op_at after n)
  ops_same n rule = record { o1 = rule.o1; o2 = rule.o2; o3 = rule.o3 }

  -- ---- placement, in a specification that is sealed

  module _ (sealed : IsSealed spec) where
    place_among : (place : Place) → In place (map (moved spec.classes) spec.places) → IsPlaceAmong (length spec.edges) (length spec.classes) place
    place_among place m =
        let from = in_map (moved spec.classes) place spec.places m in
        let known = sealed.in_range.known_places from.0 from.1 in
        subst (IsPlaceAmong (length spec.edges) (length spec.classes)) (sym from.2)
        (record { edge = known.edge; class = widest_known spec.classes from.0.class known.class })

    pub co_in_range : IsInRange after
    co_in_range = record {
      columns = sealed.in_range.columns;
      deps = sealed.in_range.deps;
      nodes = sealed.in_range.nodes;
      edges = sealed.in_range.edges;
      classes = sealed.in_range.classes;
      places = let l = sealed.in_range.places in let m = length-map spec.places (moved spec.classes) in omega (arith, l, m);
      ops = sealed.in_range.ops;
      known_deps = sealed.in_range.known_deps;
      known_nodes = sealed.in_range.known_nodes;
      known_edges = sealed.in_range.known_edges;
      known_classes = sealed.in_range.known_classes;
      known_places = place_among;
      known_ops = sealed.in_range.known_ops;
    }

    pub co_formed : IsWellFormed after
    co_formed = record { in_range = co_in_range; populated = record { column = sealed.populated.column; node = sealed.populated.node } }

    placed_then : AreOrdered after → IsPlaced after
    placed_then ordered = record {
      p1 = λ e l. co_count spec e ∙ sealed.accepted.placed.p1 e l;
      p2 = λ e l.
          subst (λ cols. Within cols (source_and_key spec (edge_at spec e)))
          (sym (co_striping spec e sealed.in_range (sealed.accepted.placed.p1 e l))) (sealed.accepted.placed.p2 e l);
      p3 = ordered;
      p4 = sealed.accepted.placed.p4;
      p5 = λ e l apart.
          sealed.accepted.placed.p5 e l
          (λ inside. apart (subst (λ cols. Within cols (bound spec (edge_at spec e).from))
          (sym (co_striping spec e sealed.in_range (sealed.accepted.placed.p1 e l))) inside));
      p6 = λ c l. let kept = sealed.accepted.placed.p6 c l in record { some = kept.some; few = kept.few };
    }

    pub co_accepted : AreOrdered after → IsAccepted after
    co_accepted ordered = record {
      adequate = adequate_same sealed.accepted.adequate;
      placed = placed_then ordered;
      ops = λ n l. ops_same n (sealed.accepted.ops n l);
    }
