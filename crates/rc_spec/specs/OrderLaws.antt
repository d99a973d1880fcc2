-- Laws of topological orders.
use Rattle.std.specs.Prelude.{◌≡◌, ℕ, zero, suc, ◌<◌, List, [], ◌∷◌, Some, length, take, get_or}
use Rattle.rc_spec.specs.Imports.{slice_get, In, AreDistinct, in_slice_get}
use Rattle.std.proofs.Common.{inl, inr, sym, ap, subst, arith}
use Rattle.std.proofs.lemmas.Option.{slice_get_within, get_or_from_slice_get}
use Rattle.rc_spec.specs.declared.spec.Spec.{Spec}
use Rattle.rc_spec.specs.First.{EachHolds}
use Rattle.rc_spec.specs.InRange.{IsInRange}
use Rattle.rc_spec.specs.Order.{IsNext, IsTopologicalOrder, LeadsForward, HasEachNodeOnce}

-- what stands in a first part stands in the whole, before the part's end
in_take : (xs : List ℕ) (k x : ℕ) → In x (take k xs) → (i : ℕ) × (i < k) × (slice_get xs i ≡ Some x)
in_take [] zero x m = absurd m
in_take [] (suc k) x m = absurd m
in_take (y ∷ xs) zero x m = absurd m
in_take (y ∷ xs) (suc k) x (inl e) = (0, omega arith, ap Some (sym e))
in_take (y ∷ xs) (suc k) x (inr m) =
    let r : (i : ℕ) × (i < k) × (slice_get xs i ≡ Some x) = in_take xs k x m in
    (suc r.0, (let l : r.0 < k = r.1 in omega arith), r.2)

abbrev pub EdgesLeadForward : Type 0
EdgesLeadForward = (spec : Spec) (order : List ℕ) → IsInRange spec → IsTopologicalOrder spec order → EachHolds (LeadsForward order) spec.edges

pub edges_lead_forward : EdgesLeadForward
edges_lead_forward spec order range top e m =
    let target : (j : ℕ) × (slice_get order j ≡ Some e.to) = in_slice_get e.to order (top.all e.to (range.known_edges e m).to) in
    let within : target.0 < length order = slice_get_within order target.0 e.to target.1 in
    let here : get_or order target.0 0 ≡ e.to = get_or_from_slice_get order target.0 e.to 0 target.1 in
    let next : IsNext spec (take target.0 order) (get_or order target.0 0) = top.next target.0 within in
    let source : (i : ℕ) × (i < target.0) × (slice_get order i ≡ Some e.from) = in_take order target.0 e.from (next.can.sources e m (sym here)) in
    (source.0, target.0, source.1, source.2, target.1)

-- no element stands among those before it
distinct_from_places : (xs : List ℕ) → ((k : ℕ) → k < length xs → In (get_or xs k 0) (take k xs) → ⊥) → AreDistinct xs
distinct_from_places [] f = tt
distinct_from_places (x ∷ xs) f = (first, distinct_from_places xs (λ k l m. f (suc k) (omega arith) (inr m)))
  where
    first : In x xs → ⊥
    first m =
        let r : (i : ℕ) × (slice_get xs i ≡ Some x) = in_slice_get x xs m in
        let within : r.0 < length xs = slice_get_within xs r.0 x r.1 in
        f (suc r.0) (omega arith) (inl (get_or_from_slice_get xs r.0 x 0 r.1))

abbrev pub NodesStandOnce : Type 0
NodesStandOnce = (spec : Spec) (order : List ℕ) → IsTopologicalOrder spec order → HasEachNodeOnce spec order

pub nodes_stand_once : NodesStandOnce
nodes_stand_once spec order top = record {
  each = top.all;
  once = distinct_from_places order (λ k l m. (top.next k l).can.new m);
  known = λ v m.
      let r : (i : ℕ) × (slice_get order i ≡ Some v) = in_slice_get v order m in
      let within : r.0 < length order = slice_get_within order r.0 v r.1 in
      subst (λ z. z < length spec.nodes) (get_or_from_slice_get order r.0 v 0 r.1) (top.next r.0 within).can.known;
}
