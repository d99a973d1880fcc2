-- What a contraction leaves of nodes, edges and placements, by the numbers that they had before.
use Rattle.std.proofs.Common.{◌≡◌, ◌==◌, ℕ, zero, suc, ◌<◌, Bool, true, false, not, if◌then◌else◌, List, [], ◌∷◌, Some, get_or, filter, map, length, refl, sym, ap, ◌∙◌, arith}
use Rattle.rc_inline.proofs.Imports.{find, remove, option_map_or, eq-eqb, eqb-true, eqb-false, ne_eqb, length-map, Edge, Place, Spec, IsSealed, bound, edge_at, no_edge, no_node, node_at, class_of, places_of, contracted, first_inlinable, renumbered_place, rejoined, renumbered}
use Rattle.rc_inline.proofs.BackLemmas.{before, before_other, before_renumbered, before_within, get_removed, renumbered_before}
use Rattle.rc_inline.proofs.ContractionLemmas.{among, fewer, found_known}

get_mapped : {A : Type 0} (f : A → A) (xs : List A) (k : ℕ) (d : A) → k < length xs → get_or (map f xs) k d ≡ f (get_or xs k d)
get_mapped f [] k d l = elim l [ ]
get_mapped f (x ∷ xs) zero d l = refl
get_mapped f (x ∷ xs) (suc k) d l = get_mapped f xs k d (omega (arith, l))

-- ---- placements of the edges that stay

module _ (f : ℕ) where
  same_test : (n k : ℕ) → (n ≡ f → ⊥) → (renumbered f n == k) ≡ (n == before f k)
  same_test n k other = go (n == before f k) refl
    where
      go : (b : Bool) → (n == before f k) ≡ b → (renumbered f n == k) ≡ b
      go true is = eq-eqb (renumbered f n) k (ap (renumbered f) (eqb-true n (before f k) is) ∙ renumbered_before f k)
      go false is = ne_eqb (renumbered f n) k (λ e. eqb-false n (before f k) is (sym (before_renumbered f n other) ∙ ap (before f) e))

  abbrev others : List Place → List Place
  others places = filter (λ (p : Place). not (p.edge == f)) places

  abbrev class_in : ℕ → List Place → ℕ
  class_in k places = option_map_or (λ (place : Place). place.class) (find (λ (place : Place). place.edge == k) places) 0

  -- the edge that is gone isn't the one that had the number
  not_gone : (n k : ℕ) → (n == f) ≡ true → (n == before f k) ≡ false
  not_gone n k is = ne_eqb n (before f k) (λ e. before_other f k (sym e ∙ eqb-true n f is))

  class_moved : (k : ℕ) (places : List Place) → class_in k (map (renumbered_place f) (others places)) ≡ class_in (before f k) places
  class_moved k [] = refl
  class_moved k (p ∷ places) = go (p.edge == f) refl (class_moved k places)
    where
      pick : (b : Bool) → class_in k (map (renumbered_place f) (others places)) ≡ class_in (before f k) places
          → option_map_or (λ (place : Place). place.class) (if b then Some (renumbered_place f p) else find (λ (place : Place). place.edge == k) (map (renumbered_place f) (others places))) 0
          ≡ option_map_or (λ (place : Place). place.class) (if b then Some p else find (λ (place : Place). place.edge == before f k) places) 0
      pick true rest = refl
      pick false rest = rest

      go : (b : Bool) → (p.edge == f) ≡ b → class_in k (map (renumbered_place f) (others places)) ≡ class_in (before f k) places
          → class_in k (map (renumbered_place f) (if not b then p ∷ others places else others places)) ≡ class_in (before f k) (p ∷ places)
      go true is rest =
          rest
          ∙ sym (ap (λ b. option_map_or (λ (place : Place). place.class) (if b then Some p else find (λ (place : Place). place.edge == before f k) places) 0)
          (not_gone p.edge k is))
      go false is rest =
          ap (λ b. option_map_or (λ (place : Place). place.class)
          (if b then Some (renumbered_place f p) else find (λ (place : Place). place.edge == k) (map (renumbered_place f) (others places))) 0)
          (same_test p.edge k (eqb-false p.edge f is))
          ∙ pick (p.edge == before f k) rest

  abbrev of_edge : ℕ → List Place → List Place
  of_edge k places = filter (λ (p : Place). p.edge == k) places

  count_moved : (k : ℕ) (places : List Place) → length (of_edge k (map (renumbered_place f) (others places))) ≡ length (of_edge (before f k) places)
  count_moved k [] = refl
  count_moved k (p ∷ places) = go (p.edge == f) refl (count_moved k places)
    where
      pick : (b : Bool) → length (of_edge k (map (renumbered_place f) (others places))) ≡ length (of_edge (before f k) places)
          → length (if b then renumbered_place f p ∷ of_edge k (map (renumbered_place f) (others places)) else of_edge k (map (renumbered_place f) (others places)))
          ≡ length (if b then p ∷ of_edge (before f k) places else of_edge (before f k) places)
      pick true rest = ap suc rest
      pick false rest = rest

      go : (b : Bool) → (p.edge == f) ≡ b → length (of_edge k (map (renumbered_place f) (others places))) ≡ length (of_edge (before f k) places)
          → length (of_edge k (map (renumbered_place f) (if not b then p ∷ others places else others places))) ≡ length (of_edge (before f k) (p ∷ places))
      go true is rest = rest ∙ sym (ap (λ b. length (if b then p ∷ of_edge (before f k) places else of_edge (before f k) places)) (not_gone p.edge k is))
      go false is rest =
          ap (λ b. length (if b then renumbered_place f p ∷ of_edge k (map (renumbered_place f) (others places)) else of_edge k (map (renumbered_place f) (others places)))) (same_test p.edge k (eqb-false p.edge f is))
          ∙ pick (p.edge == before f k) rest

module _ (spec : Spec) (f : ℕ) (sealed : IsSealed spec) (found : first_inlinable spec ≡ Some f) where
  abbrev after : Spec
  after = contracted spec f

  abbrev gone : Edge
  gone = edge_at spec f

  pub within : (k : ℕ) → k < length after.edges → k < length (remove spec.edges f)
  within k l = let same = length-map (remove spec.edges f) (rejoined gone) in omega (arith, l, same)

  -- a node binds what it did
  pub bound_kept : (n : ℕ) → (n ≡ gone.from → ⊥) → bound after (renumbered gone.from n) ≡ bound spec n
  bound_kept n other =
      ap (λ node. node.cols)
      (get_removed spec.nodes gone.from (renumbered gone.from n) no_node (among spec f sealed found).from
      ∙ ap (λ m. node_at spec m) (before_renumbered gone.from n other))

  -- an edge is the one that it was, joined to what is left
  pub edge_kept : (k : ℕ) → k < length after.edges → edge_at after k ≡ rejoined gone (edge_at spec (before f k))
  edge_kept k l =
      get_mapped (rejoined gone) (remove spec.edges f) k no_edge (within k l)
      ∙ ap (rejoined gone) (get_removed spec.edges f k no_edge (found_known spec f sealed found))

  pub edge_within : (k : ℕ) → k < length after.edges → before f k < length spec.edges
  edge_within k l =
      let last = before_within f k (length (remove spec.edges f)) (within k l) in
      let count = fewer spec f sealed found in
      omega (arith, last, count)

  -- it stands on the class on which it stood
  pub class_kept : (k : ℕ) → class_of after k ≡ class_of spec (before f k)
  class_kept k = class_moved f k spec.places

  pub places_kept : (k : ℕ) → length (places_of after k) ≡ length (places_of spec (before f k))
  places_kept k = count_moved f k spec.places
