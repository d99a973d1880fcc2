-- What the first edges reach and visit, edge by edge.
use Rattle.std.proofs.Common.{◌≡◌, ℕ, zero, suc, ◌<◌, List, [], ◌∷◌, get_or, length, map, take, sym, ap, subst, inl, inr, arith, refl, ◌∙◌}
use Rattle.rc_inline.proofs.Imports.{nat_cmp, In, flat_map_in, gather_in, in_flat_map, in_gather, in_map, map_in, nat_order, Edge, Spec, visited, bound, edge_at, no_edge}

-- ---- the first elements

-- an element is one of the first at some place
abbrev pub IsAmong : {A : Type 0} → A → List A → ℕ → A → Type 0
IsAmong {A} x xs n d = (j : ℕ) × (j < n) × (j < length xs) × (get_or xs j d ≡ x)

pub in_first : {A : Type 0} (xs : List A) (n : ℕ) (d x : A) → In x (take n xs) → IsAmong x xs n d
in_first [] zero d x m = absurd m
in_first [] (suc n) d x m = absurd m
in_first (y ∷ ys) zero d x m = absurd m
in_first (y ∷ ys) (suc n) d x (inl q) = (0, omega arith, omega arith, sym q)
in_first (y ∷ ys) (suc n) d x (inr m) =
    let at = in_first ys n d x m in
    let before = at.1 in
    let within = at.2 in
    (suc at.0, omega (arith, before), omega (arith, within), at.3)

pub first_in : {A : Type 0} (xs : List A) (n j : ℕ) (d : A) → j < n → j < length xs → In (get_or xs j d) (take n xs)
first_in [] n j d l w = elim w [ ]
first_in (y ∷ ys) zero j d l w = elim l [ ]
first_in (y ∷ ys) (suc n) zero d l w = inl refl
first_in (y ∷ ys) (suc n) (suc j) d l w = inr (first_in ys n j d (omega (arith, l)) (omega (arith, w)))

-- ---- the first edges

module _ (spec : Spec) where
  -- an edge among the first n whose target binds the column
  abbrev pub Visits : ℕ → ℕ → Type 0
  Visits n c = (j : ℕ) × (j < n) × (j < length spec.edges) × In c (bound spec (edge_at spec j).to)

  pub in_visited : (n c : ℕ) → In c (visited spec n) → Visits n c
  in_visited n c m =
      let by = in_flat_map (λ (e : Edge). bound spec e.to) c (take n spec.edges) (in_gather nat_cmp nat_order c _ m) in
      let at = in_first spec.edges n no_edge by.0 by.1 in
      (at.0, at.1, at.2, subst (λ (e : Edge). In c (bound spec e.to)) (sym at.3) by.2)

  pub visited_in : (n c : ℕ) → Visits n c → In c (visited spec n)
  visited_in n c (j, l, w, m) =
      gather_in nat_cmp nat_order c _ (flat_map_in (λ (e : Edge). bound spec e.to) c (edge_at spec j) (take n spec.edges) (first_in spec.edges n j no_edge l w) m)

  -- an edge among the first n that leads to the node
  abbrev pub Leads : ℕ → ℕ → Type 0
  Leads n v = (j : ℕ) × (j < n) × (j < length spec.edges) × ((edge_at spec j).to ≡ v)

  pub in_targets : (n v : ℕ) → In v (map (λ (e : Edge). e.to) (take n spec.edges)) → Leads n v
  in_targets n v m =
      let by = in_map (λ (e : Edge). e.to) v (take n spec.edges) m in
      let at = in_first spec.edges n no_edge by.0 by.1 in
      (at.0, at.1, at.2, ap (λ (e : Edge). e.to) at.3 ∙ sym by.2)

  pub targets_in : (n v : ℕ) → Leads n v → In v (map (λ (e : Edge). e.to) (take n spec.edges))
  targets_in n v (j, l, w, to) =
      subst (λ u. In u (map (λ (e : Edge). e.to) (take n spec.edges))) to
      (map_in (λ (e : Edge). e.to) (edge_at spec j) (take n spec.edges) (first_in spec.edges n j no_edge l w))
