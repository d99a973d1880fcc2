-- The shapes of an accepted specification's edges.
use Rattle.std.specs.Prelude.{◌≡◌, ℕ, zero, suc, ◌+◌, ◌<◌, ◌≤◌, ◌==◌, ◌&&◌, Bool, true, false, cond, not, List, [], ◌∷◌, None, Some, length, map}
use Rattle.rc_fragment.specs.Imports.{find, range_with_len, slice_get, In, get_or_in, IsColSet, in_range_bounds, union_left, union_right, values_eq, IsSealed, KeepsA3, bound, edge_at, no_edge, no_node, node_at, edge_numbers, IsEdgeAmong, class_of, Spec}
use Rattle.std.proofs.Common.{refl, sym, ap, subst, ◌∙◌, inl, inr, arith}
use Rattle.std.proofs.lemmas.Bool.{and_parts, eqb-true, false≢true}
use Rattle.std.proofs.lemmas.List.FromFn.{length-map-range_with_len}
use Rattle.std.proofs.lemmas.Option.{none-some}
use Rattle.rc_edges.specs.ValuesLaws.{same_from_test}
use Rattle.rc_fragment.specs.Fragment.{HasShape, edge_table, is_below, is_hash, lower_of, may_be_implied, shape_of}
use Rattle.rc_fragment.specs.ImpliedTables.{IsLowerOf, IsTable}
use Rattle.rc_fragment.specs.RowValues.{IsParted}
use Rattle.rc_fragment.specs.declared.shape.EdgeShape.{EdgeShape}

module _ (spec : Spec) (sealed : IsSealed spec) where
  bound_set : (v : ℕ) → v < length spec.nodes → IsColSet (bound spec v)
  bound_set v l = (sealed.in_range.known_nodes (node_at spec v) (get_or_in spec.nodes v no_node l)).set

  -- source and key of each edge part the columns of its target
  pub parted_edge : (n : ℕ) → n < length spec.edges → IsParted (shape_of spec n)
  parted_edge n l =
      let w : IsEdgeAmong (length spec.nodes) (length spec.columns) (edge_at spec n) = sealed.in_range.known_edges (edge_at spec n) (get_or_in spec.edges n no_edge l) in
      let a3 : KeepsA3 spec (edge_at spec n) = sealed.accepted.adequate.a3 n l in
      record {
        source = bound_set (edge_at spec n).from w.from;
        key = w.key.set;
        target = bound_set (edge_at spec n).to w.to;
        apart = a3.apart;
        source_within = λ c i. a3.inside c (union_left (bound spec (edge_at spec n).from) (edge_at spec n).key c i);
        key_within = λ c i. a3.inside c (union_right (bound spec (edge_at spec n).from) (edge_at spec n).key c i);
      }

-- ---- the table of edges

-- what is at a place of a list by numbers
pub at_number : {A : Type 0} (f : ℕ → A) (a n i : ℕ) (x : A) → slice_get (map f (range_with_len a n)) i ≡ Some x → (i < n) × (x ≡ f (a + i))
at_number f a zero i x h = absurd (none-some x h)
at_number f a (suc n) zero x h =
    let q : Some (f a) ≡ Some x = h in
    let is : f a ≡ x = cc in
    let z : a ≡ a + 0 = omega arith in
    (omega arith, sym is ∙ ap f z)
at_number f a (suc n) (suc i) x h =
    let ih : (i < n) × (x ≡ f (a + 1 + i)) = at_number f (a + 1) n i x h in
    let z : a + 1 + i ≡ a + suc i = omega arith in
    (omega (arith, ih.0), ih.1 ∙ ap f z)

pub number_at : {A : Type 0} (f : ℕ → A) (a n i : ℕ) → i < n → slice_get (map f (range_with_len a n)) i ≡ Some (f (a + i))
number_at f a zero i l = absurd (omega arith)
number_at f a (suc n) zero l = let z : a ≡ a + 0 = omega arith in ap (λ k. Some (f k)) z
number_at f a (suc n) (suc i) l = let z : a + 1 + i ≡ a + suc i = omega arith in number_at f (a + 1) n i (omega arith) ∙ ap (λ k. Some (f k)) z

-- what is found in a list is in it, and does
found_in : {A : Type 0} (p : A → Bool) (xs : List A) (x : A) → find p xs ≡ Some x → In x xs × (p x ≡ true)
found_in p [] x h = absurd (none-some x h)
found_in {A} p (y ∷ ys) x h = go (p y) refl h (found_in p ys x)
  where
    go : (b : Bool) → p y ≡ b → cond b (Some y) (find p ys) ≡ Some x → (find p ys ≡ Some x → In x ys × (p x ≡ true)) → In x (y ∷ ys) × (p x ≡ true)
    go true q g ih = let is : y ≡ x = cc in (inl (sym is), ap p (sym is) ∙ q)
    go false q g ih = let m : In x ys × (p x ≡ true) = ih g in (inr m.0, m.1)

-- an edge has the shape of its number
pub shape_by_number : (spec : Spec) (e : ℕ) (shape : EdgeShape) → HasShape (edge_table spec) e shape → (e < length spec.edges) × (shape ≡ shape_of spec e)
shape_by_number spec e shape has =
    let q : (e < length spec.edges) × (shape ≡ shape_of spec (0 + e)) = at_number (shape_of spec) 0 (length spec.edges) e shape has in
    let z : 0 + e ≡ e = omega arith in
    (q.0, q.1 ∙ ap (shape_of spec) z)

pub number_has_shape : (spec : Spec) (e : ℕ) → e < length spec.edges → HasShape (edge_table spec) e (shape_of spec e)
number_has_shape spec e l = let z : 0 + e ≡ e = omega arith in number_at (shape_of spec) 0 (length spec.edges) e l ∙ ap (λ k. Some (shape_of spec k)) z

-- what is known of an edge whose rows another tells, and of that one
record IsImplied (spec : Spec) (e l : ℕ) : Type 0 where
  pub may : may_be_implied spec (edge_at spec e) ≡ true
  pub known : l < length spec.edges
  pub below : is_below spec e l ≡ true

implied_by : (spec : Spec) (e l : ℕ) → lower_of spec e ≡ Some l → IsImplied spec e l
implied_by spec e l h = go (may_be_implied spec (edge_at spec e)) refl h
  where
    go : (b : Bool) → may_be_implied spec (edge_at spec e) ≡ b → cond b (find (is_below spec e) (edge_numbers spec)) None ≡ Some l → IsImplied spec e l
    go true q g =
        let f : In l (edge_numbers spec) × (is_below spec e l ≡ true) = found_in (is_below spec e) (edge_numbers spec) l g in
        let r : (0 ≤ l) × (l < 0 + length spec.edges) = in_range_bounds 0 (length spec.edges) l f.0 in
        record { may = q; known = omega (arith, r.1); below = f.1 }
    go false q g = absurd (none-some l g)

-- the table of an accepted specification says of each edge whose rows another tells that it is above it
module _ (spec : Spec) (sealed : IsSealed spec) where
  lower_there : (e l : ℕ) → lower_of spec e ≡ Some l → (lower : EdgeShape) × HasShape (edge_table spec) l lower × IsLowerOf (shape_of spec e) lower
  lower_there e l h =
      let i : IsImplied spec e l = implied_by spec e l h in
      let root = and_parts (values_eq (bound spec (edge_at spec e).from) []) (values_eq (edge_at spec e).key (bound spec (edge_at spec e).to) && (not (values_eq (edge_at spec e).key []) && is_hash (edge_at spec e).kind)) i.may in
      let key = and_parts (values_eq (edge_at spec e).key (bound spec (edge_at spec e).to)) (not (values_eq (edge_at spec e).key []) && is_hash (edge_at spec e).kind) root.1 in
      let some = and_parts (not (values_eq (edge_at spec e).key [])) (is_hash (edge_at spec e).kind) key.1 in
      let below = and_parts (class_of spec l == class_of spec e) (values_eq (bound spec (edge_at spec l).from) (bound spec (edge_at spec e).to)) i.below in
      let source : bound spec (edge_at spec l).from ≡ bound spec (edge_at spec e).to = same_from_test (bound spec (edge_at spec l).from) (bound spec (edge_at spec e).to) below.1 in
      let key_is : (edge_at spec e).key ≡ bound spec (edge_at spec e).to = same_from_test (edge_at spec e).key (bound spec (edge_at spec e).to) key.0 in (
        shape_of spec l,
        number_has_shape spec l i.known,
        record {
          kept = kept l (subst (λ c. not (values_eq c []) ≡ true) (key_is ∙ sym source) some.0);
          class = eqb-true (class_of spec l) (class_of spec e) below.0;
          source = source;
          root = same_from_test (bound spec (edge_at spec e).from) [] root.0;
          key = key_is;
          some = columns (edge_at spec e).key some.0;
        },
      )
    where
      -- an edge whose source has columns is kept
      kept : (l : ℕ) → not (values_eq (bound spec (edge_at spec l).from) []) ≡ true → lower_of spec l ≡ None
      kept l n = go (values_eq (bound spec (edge_at spec l).from) []) n
        where
          go : (b : Bool) → not b ≡ true
              → cond (b && (values_eq (edge_at spec l).key (bound spec (edge_at spec l).to) && (not (values_eq (edge_at spec l).key []) && is_hash (edge_at spec l).kind))) (find (is_below spec l) (edge_numbers spec)) None ≡ None
          go true n = absurd (false≢true n)
          go false n = refl

      columns : (cols : List ℕ) → not (values_eq cols []) ≡ true → 0 < length cols
      columns [] n = absurd (false≢true n)
      columns (c ∷ cols) n = omega arith

  pub table_of_spec : IsTable (edge_table spec)
  table_of_spec = record {
    few =
        let n : length (edge_table spec) ≡ length spec.edges = length-map-range_with_len (shape_of spec) 0 (length spec.edges) in
        let l : length spec.edges ≤ 24 = sealed.in_range.edges in
        omega (arith, n, l);
    parted = λ e shape has.
        let q : (e < length spec.edges) × (shape ≡ shape_of spec e) = shape_by_number spec e shape has in
        subst IsParted (sym q.1) (parted_edge spec sealed e q.0);
    lower = λ e l upper has is.
        let q : (e < length spec.edges) × (upper ≡ shape_of spec e) = shape_by_number spec e upper has in
        subst (λ u. (lower : EdgeShape) × HasShape (edge_table spec) l lower × IsLowerOf u lower) (sym q.1) (lower_there e l (sym (ap (λ (s : EdgeShape). s.lower) q.1) ∙ is));
  }
