-- Lists in which each number below a bound has its own, as the edges that are resolved.
use Rattle.std.specs.Prelude.{◌≡◌, ℕ, ◌+◌, ◌<◌, ◌≤◌, List, Some, length, slice_set}
use Rattle.std.proofs.Common.{inl, inr, get_or, sym, ap, subst, ◌∙◌, arith}
use Rattle.rc_plan.proofs.Imports.{cases_eq, get_or-set_at, get_or-set_other, length-set, get_or_from_slice_get, slice_get-get_or, union, Spec, bound, edge_at, source_and_key, AllBelow, IsResolvedEdge, ResolvedEdge}

module _ {X : Type 0} (holds : ℕ → X → Type 0) (items : List X) where
  -- one more, put at its number
  pub one_more : (n : ℕ) (x : X) → n < length items → AllBelow holds n items → holds n x → AllBelow holds (n + 1) (slice_set items n x)
  one_more n x within before here = record {
    count = subst (λ k. n + 1 ≤ k) (sym (length-set items n x)) (omega (arith, within));
    each = λ i y below at. elim (cases_eq i n) [
      | inl same ↦
          let is : x ≡ y = sym (get_or-set_at items n i x y same within) ∙ get_or_from_slice_get (slice_set items n x) i y y at in
          subst (holds i) is (subst (λ k. holds k x) (sym same) here)
      | inr other ↦
          let less : i < n = omega arith in
          let is : get_or items i y ≡ y = sym (get_or-set_other items n i x y other) ∙ get_or_from_slice_get (slice_set items n x) i y y at in
          before.each i y less (slice_get-get_or items i y (omega (arith, less, within)) ∙ ap Some is)
    ];
  }

  -- what stands at a number
  pub at_number : (n i : ℕ) (d : X) → AllBelow holds n items → i < n → holds i (get_or items i d)
  at_number n i d all below = let count = all.count in all.each i (get_or items i d) below (slice_get-get_or items i d (omega (arith, count, below)))

-- source and key of the edge
pub given_is : (spec : Spec) (e : ℕ) (r : ResolvedEdge) → IsResolvedEdge spec e r → union r.source r.key ≡ source_and_key spec (edge_at spec e)
given_is spec e r resolved = ap (λ (cols : List ℕ). union cols r.key) resolved.source ∙ ap (union (bound spec (edge_at spec e).from)) resolved.key
