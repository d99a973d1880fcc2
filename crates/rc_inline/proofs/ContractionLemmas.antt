-- A contraction of an accepted specification is in range.
use Rattle.std.proofs.Common.{◌≡◌, ◌==◌, ℕ, ◌+◌, ◌-◌, ◌<◌, Bool, true, false, not, ◌&&◌, if◌then◌else◌, nat_lt, [], ◌∷◌, filter, map, length, Some, refl, sym, subst, inl, arith}
use Rattle.rc_inline.proofs.Imports.{remove, eq-eqb, eqb-true, eqb-false, ltb-true, ltb-false, not-true, length-map, length-remove, position-Some, count_by-le-length, length-filter, In, in_filter, in_map, Edge, Place, Spec, IsSealed, edge_at, no_edge, edge_at_in, edge_among, HasColumnAndNode, IsEdgeAmong, IsInRange, IsPlaceAmong, contracted, edges_into, edges_out_of, first_inlinable, is_inlinable, is_singleton, renumbered_place, rejoined, renumbered, in_removed, others_fail}

both : (a b : Bool) → (a && b) ≡ true → (a ≡ true) × (b ≡ true)
both true true e = (refl, refl)
both true false e = absurd cc
both false b e = absurd cc

-- a number other than the one that goes is one of those that are left
pub renumbered_below : (gone n left : ℕ) → (n ≡ gone → ⊥) → n < left + 1 → gone < left + 1 → renumbered gone n < left
renumbered_below gone n left apart l g = go (nat_lt gone n) refl
  where
    go : (b : Bool) → nat_lt gone n ≡ b → (if b then n - 1 else n) < left
    go true e = let above = ltb-true gone n e in omega (arith, l, above)
    go false e = let below = ltb-false gone n e in omega (arith, l, g, below, apart)

module _ (spec : Spec) (f : ℕ) (sealed : IsSealed spec) (found : first_inlinable spec ≡ Some f) where
  abbrev edge : Edge
  edge = edge_at spec f

  abbrev w : ℕ
  w = edge.from

  passes : (f < length spec.edges) × (is_inlinable spec edge ≡ true)
  passes = let at = position-Some (is_inlinable spec) spec.edges f no_edge found in (at.0, at.1)

  pub found_known : f < length spec.edges
  found_known = passes.0

  counts : ((edges_into spec w == 1) ≡ true) × ((edges_out_of spec w == 1) ≡ true)
  counts = both (edges_into spec w == 1) _ (both (is_singleton edge.kind) _ passes.1).1

  pub is_single : is_singleton edge.kind ≡ true
  is_single = (both (is_singleton edge.kind) _ passes.1).0

  pub one_in : edges_into spec w ≡ 1
  one_in = eqb-true _ _ counts.0

  pub one_out : edges_out_of spec w ≡ 1
  one_out = eqb-true _ _ counts.1

  pub among : IsEdgeAmong (length spec.nodes) (length spec.columns) edge
  among = edge_among spec f sealed.in_range found_known

  -- the edge is no circle by itself
  pub apart : edge.to ≡ w → ⊥
  apart e =
      sealed.accepted.adequate.a2 w among.from
      (edge ∷ [], (edge_at_in spec f found_known, refl, e), (edge, inl refl, refl))

  pub left : length (remove spec.nodes w) + 1 ≡ length spec.nodes
  left = length-remove spec.nodes w among.from

  pub fewer : length (remove spec.edges f) + 1 ≡ length spec.edges
  fewer = length-remove spec.edges f found_known

  node_left : (n : ℕ) → (n ≡ w → ⊥) → n < length spec.nodes → renumbered w n < length (remove spec.nodes w)
  node_left n other l =
      renumbered_below w n (length (remove spec.nodes w)) other (subst (λ k. n < k) (sym left) l) (subst (λ k. w < k) (sym left) among.from)

  -- where another edge leads
  leads : (e : Edge) → In e (remove spec.edges f) → renumbered w (if e.to == w then edge.to else e.to) < length (remove spec.nodes w)
  leads e m = go (e.to == w) refl
    where
      go : (b : Bool) → (e.to == w) ≡ b → renumbered w (if b then edge.to else e.to) < length (remove spec.nodes w)
      go true is = node_left edge.to apart among.to
      go false is =
          node_left e.to (eqb-false e.to w is) (sealed.in_range.known_edges e (in_removed spec.edges f e m)).to

  edge_left : (e : Edge) → In e (remove spec.edges f) → IsEdgeAmong (length (remove spec.nodes w)) (length spec.columns) (rejoined edge e)
  edge_left e m =
      let known = sealed.in_range.known_edges e (in_removed spec.edges f e m) in
      let other = others_fail (λ (e : Edge). e.from == w) spec.edges f no_edge found_known (eq-eqb w w refl) one_out e m in
      record { from = node_left e.from (eqb-false e.from w other) known.from; to = leads e m; key = known.key }

  place_left : (place : Place) → In place spec.places → not (place.edge == f) ≡ true
      → IsPlaceAmong (length (map (rejoined edge) (remove spec.edges f))) (length spec.classes) (renumbered_place f place)
  place_left place m stays =
      let known = sealed.in_range.known_places place m in
      record {
        edge =
            subst (λ k. renumbered f place.edge < k) (sym (length-map (remove spec.edges f) (rejoined edge)))
            (renumbered_below f place.edge (length (remove spec.edges f)) (eqb-false place.edge f (not-true _ stays))
            (subst (λ k. place.edge < k) (sym fewer) known.edge) (subst (λ k. f < k) (sym fewer) found_known));
        class = known.class;
      }

  pub contracted_in_range : IsInRange (contracted spec f)
  contracted_in_range = record {
    columns = sealed.in_range.columns;
    deps = sealed.in_range.deps;
    nodes = let l = sealed.in_range.nodes in omega (arith, l, left);
    edges = let l = sealed.in_range.edges in let m = length-map (remove spec.edges f) (rejoined edge) in omega (arith, l, fewer, m);
    classes = sealed.in_range.classes;
    places =
        let l = sealed.in_range.places in
        let m = length-map (filter (λ (p : Place). not (p.edge == f)) spec.places) (renumbered_place f) in
        let k = length-filter (λ (p : Place). not (p.edge == f)) spec.places in
        let n = count_by-le-length (λ (p : Place). not (p.edge == f)) spec.places in
        omega (arith, l, m, k, n);
    ops = sealed.in_range.ops;
    known_deps = sealed.in_range.known_deps;
    known_nodes = λ node m. sealed.in_range.known_nodes node (in_removed spec.nodes w node m);
    known_edges = λ e m.
        let from = in_map (rejoined edge) e (remove spec.edges f) m in
        subst (IsEdgeAmong (length (remove spec.nodes w)) (length spec.columns)) (sym from.2) (edge_left from.0 from.1);
    known_classes = sealed.in_range.known_classes;
    known_places = λ place m.
        let from = in_map (renumbered_place f) place (filter (λ (p : Place). not (p.edge == f)) spec.places) m in
        let stays = in_filter (λ (p : Place). not (p.edge == f)) from.0 spec.places from.1 in
        subst (IsPlaceAmong (length (map (rejoined edge) (remove spec.edges f))) (length spec.classes)) (sym from.2) (place_left from.0 stays.0 stays.1);
    known_ops = sealed.in_range.known_ops;
  }

  pub contracted_populated : HasColumnAndNode (contracted spec f)
  contracted_populated = record {
    column = sealed.populated.column;
    node = let from = among.from in let to = among.to in omega (arith, left, from, to, apart);
  }
