-- What the tests of good routes find, as facts.
use Rattle.std.proofs.Common.{◌≡◌, ℕ, suc, ◌+◌, ◌<◌, ◌↔◌, ◌⊎◌, Bool, true, List, ◌∷◌, ◌++◌, length, drop, get_or, inl, inr, sym, ap, subst, ◌∙◌, arith, drop-cons}
use Rattle.rc_route.proofs.Imports.{nat_cmp, In, nat_order, in_put, put_new, put_old, union, with_column, Edge, Spec, IsLossless, bound, edge_at, target_columns, IsStep, IsGoodFrom, good_reached}

-- the edge can be read, by what was found at its number
pub step_found : (spec : Spec) (reached visited : List ℕ) (n : ℕ) (e : Edge) (b : Bool) → edge_at spec n ≡ e → n < length spec.edges
    → (b ≡ true) ↔ (((e.from ≡ 0) ⊎ In e.from reached) × IsLossless spec visited (bound spec e.to)) → (b ≡ true) ↔ IsStep spec reached visited n
step_found spec reached visited n e b same l h = (
  (λ t. record {
    known = l;
    source = subst (λ (z : Edge). (z.from ≡ 0) ⊎ In z.from reached) (sym same) (h.0 t).0;
    lossless = subst (λ (z : Edge). IsLossless spec visited (bound spec z.to)) (sym same) (h.0 t).1;
  }),
  λ s. h.1 (subst (λ (z : Edge). (z.from ≡ 0) ⊎ In z.from reached) same s.source, subst (λ (z : Edge). IsLossless spec visited (bound spec z.to)) same s.lossless),
)

-- one more edge, whose target joins the set of reached nodes
pub good_more : (spec : Spec) (need reached visited edges rest : List ℕ) (i : ℕ) → i < length edges → IsStep spec reached visited (get_or edges i 0)
    → IsGoodFrom spec need reached visited (drop i edges ++ rest)
    ↔ IsGoodFrom spec need (with_column reached (edge_at spec (get_or edges i 0)).to) (union visited (target_columns spec (get_or edges i 0))) (drop (i + 1) edges ++ rest)
good_more spec need reached visited edges rest i l step =
    let e : ℕ = get_or edges i 0 in
    let to : ℕ = (edge_at spec (get_or edges i 0)).to in
    let next : List ℕ = union visited (target_columns spec (get_or edges i 0)) in
    let front : drop i edges ≡ get_or edges i 0 ∷ drop (i + 1) edges = drop-cons edges i 0 l ∙ ap (λ z. get_or edges i 0 ∷ drop z edges) (let q : suc i ≡ i + 1 = omega arith in q) in (
      (λ g. let h : IsGoodFrom spec need reached visited (get_or edges i 0 ∷ (drop (i + 1) edges ++ rest)) = subst (λ z. IsGoodFrom spec need reached visited (z ++ rest)) front g in
          good_reached spec need ((edge_at spec (get_or edges i 0)).to ∷ reached) (with_column reached (edge_at spec (get_or edges i 0)).to) (union visited (target_columns spec (get_or edges i 0))) (drop (i + 1) edges ++ rest)
          (λ v m. elim m [
            | inl q ↦ subst (λ z. In z (with_column reached (edge_at spec (get_or edges i 0)).to)) (sym q) (put_new nat_cmp nat_order (edge_at spec (get_or edges i 0)).to reached)
            | inr q ↦ put_old nat_cmp nat_order v (edge_at spec (get_or edges i 0)).to reached q
          ]) h.1),
      λ g. let h : IsGoodFrom spec need ((edge_at spec (get_or edges i 0)).to ∷ reached) (union visited (target_columns spec (get_or edges i 0))) (drop (i + 1) edges ++ rest) =
          good_reached spec need (with_column reached (edge_at spec (get_or edges i 0)).to) ((edge_at spec (get_or edges i 0)).to ∷ reached) (union visited (target_columns spec (get_or edges i 0))) (drop (i + 1) edges ++ rest)
          (λ v m. in_put nat_cmp nat_order v (edge_at spec (get_or edges i 0)).to reached m) g in
          subst (λ z. IsGoodFrom spec need reached visited (z ++ rest)) (sym front) (step, h),
    )

-- two equivalences, one after the other
pub both_ways : {A B C : Type 0} → A ↔ B → B ↔ C → A ↔ C
both_ways f g = (λ a. g.0 (f.0 a), λ c. f.1 (g.1 c))
