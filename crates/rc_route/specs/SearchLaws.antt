-- Laws of a search for least paths along an order in which each edge leads forward. (Shortest paths in a directed acyclic graph.)
use Rattle.std.specs.Prelude.{◌≡◌, ℕ, ◌+◌, ◌<◌, ◌≤◌, List, [], ◌∷◌, ◌++◌, ◌⊎◌, Option, None, Some, reverse, length}
use Rattle.rc_route.specs.Imports.{Ordering, Less, Equal, Greater, nat_cmp, ordering_then, MatchOrdering, slice_cmp, IsOrder, number_lists_order, then_equal, Spec, HasEdgeInto, IsRoot, edge_at, IsInRange, HasColumnAndNode}
use Rattle.std.proofs.Common.{inl, inr, refl, sym, ap, subst, ◌∙◌, arith}
use Rattle.std.proofs.lemmas.Bool.{cases_eq, cases_lt}
use Rattle.std.proofs.lemmas.Cmp.{nat_cmp_total, then_total, on_total, ranked}
use Rattle.std.proofs.lemmas.List.{reverse-reverse, reverse-append}
use Rattle.std.proofs.lemmas.List.Sums.{sum_by_push}
use Rattle.rc_route.specs.Paths.{IsPath, end_of, cost, edge_cost, path_cmp, IsLeastPath}
use Rattle.rc_route.specs.PathsLaws.{path_end, path_more, end_below, into_edge}
use Rattle.rc_route.specs.Search.{IsFirstLeast, IsFirstLeastOrNone, path_at, back_cmp, IsLeastTo, EndsAt, cost_by, Binds, cost_to}

-- ---- the first of those that cost least

-- a further number that P does not hold of
pub least_passes : (P : ℕ → Type 0) (price : ℕ → ℕ) (limit : ℕ) (found : Option ℕ) → (P limit → ⊥) → IsFirstLeastOrNone P price limit found → IsFirstLeastOrNone P price (limit + 1) found
least_passes P price limit None out h = λ k l p. elim (cases_eq k limit) [ inl e ↦ out (subst P e p) | inr e ↦ h k (omega arith) p ]
least_passes P price limit (Some n) out h = record {
  below = omega arith;
  holds = h.holds;
  least = λ k l p. elim (cases_eq k limit) [ inl e ↦ absurd (out (subst P e p)) | inr e ↦ h.least k (omega arith) p ];
  first = h.first;
}

-- one that costs no less than the least
pub least_keeps : (P : ℕ → Type 0) (price : ℕ → ℕ) (limit n : ℕ) → price n ≤ price limit → IsFirstLeast P price limit n → IsFirstLeast P price (limit + 1) n
least_keeps P price limit n le h = record {
  below = omega arith;
  holds = h.holds;
  least = λ k l p. elim (cases_eq k limit) [ inl e ↦ subst (λ z. price n ≤ price z) (sym e) le | inr e ↦ h.least k (omega arith) p ];
  first = h.first;
}

-- the first that P holds of
pub least_begins : (P : ℕ → Type 0) (price : ℕ → ℕ) (limit : ℕ) → P limit → ((k : ℕ) → k < limit → P k → ⊥) → IsFirstLeast P price (limit + 1) limit
least_begins P price limit here none = record {
  below = omega arith;
  holds = here;
  least = λ k l p. elim (cases_eq k limit) [ inl e ↦ subst (λ z. price limit ≤ price z) (sym e) (omega arith) | inr e ↦ absurd (none k (omega arith) p) ];
  first = λ k l p. absurd (none k l p);
}

-- one that costs less than the least
pub least_takes : (P : ℕ → Type 0) (price : ℕ → ℕ) (limit n : ℕ) → P limit → price limit < price n → IsFirstLeast P price limit n → IsFirstLeast P price (limit + 1) limit
least_takes P price limit n here less h = record {
  below = omega arith;
  holds = here;
  least = λ k l p. elim (cases_eq k limit) [
    | inl e ↦ subst (λ z. price limit ≤ price z) (sym e) (omega arith)
    | inr e ↦ (let q : price n ≤ price k = h.least k (omega arith) p in omega arith)
  ];
  first = λ k l p. let q : price n ≤ price k = h.least k l p in omega arith;
}

-- ---- the order of paths to one node

back_tie : (spec : Spec) (pattern p q : List ℕ) → back_cmp spec pattern p q ≡ Equal → p ≡ q
back_tie spec pattern p q e =
    let f : (nat_cmp (cost spec pattern p) (cost spec pattern q) ≡ Equal) × (slice_cmp nat_cmp (reverse p) (reverse q) ≡ Equal) = then_equal _ _ e in
    let h : reverse p ≡ reverse q = number_lists_order.ties (reverse p) (reverse q) f.1 in
    sym (reverse-reverse p) ∙ ap reverse h ∙ reverse-reverse q

pub back_order : (spec : Spec) (pattern : List ℕ) → IsOrder (back_cmp spec pattern)
back_order spec pattern = record {
  total = then_total (on_total (λ (p : List ℕ). cost spec pattern p) nat_cmp_total) (on_total (λ (p : List ℕ). reverse p) number_lists_order.total);
  ties = back_tie spec pattern;
}

-- the same path, or one before
IsNotAfter : Spec → List ℕ → List ℕ → List ℕ → Type 0
IsNotAfter spec pattern p q = (p ≡ q) ⊎ (back_cmp spec pattern p q ≡ Less)

not_after_both : (spec : Spec) (pattern p q t : List ℕ) → IsNotAfter spec pattern p q → IsNotAfter spec pattern q t → IsNotAfter spec pattern p t
unfolding IsNotAfter
not_after_both spec pattern p q t (inl e) (inl f) = inl (e ∙ f)
not_after_both spec pattern p q t (inl e) (inr m) = inr (subst (λ z. back_cmp spec pattern z t ≡ Less) (sym e) m)
not_after_both spec pattern p q t (inr l) (inl f) = inr (subst (λ z. back_cmp spec pattern p z ≡ Less) f l)
not_after_both spec pattern p q t (inr l) (inr m) = inr ((back_order spec pattern).total.trans p q t l m)

-- ---- one more edge

pub cost-more : (spec : Spec) (pattern p : List ℕ) (e : ℕ) → cost spec pattern (p ++ (e ∷ [])) ≡ cost spec pattern p + edge_cost spec pattern e
cost-more spec pattern p e = sum_by_push (edge_cost spec pattern) p e

cmp_less : (m n : ℕ) → m < n → nat_cmp m n ≡ Less
cmp_less m n l = go (nat_cmp m n) (ranked m n (nat_cmp m n) refl)
  where
    go : (r : Ordering) → MatchOrdering r (m < n) (m ≡ n) (n < m) → r ≡ Less
    go Less h = refl
    go Equal h = absurd (omega arith)
    go Greater h = absurd (omega arith)

cmp_same : (m n : ℕ) → m ≡ n → nat_cmp m n ≡ Equal
cmp_same m n e = go (nat_cmp m n) (ranked m n (nat_cmp m n) refl)
  where
    go : (r : Ordering) → MatchOrdering r (m < n) (m ≡ n) (n < m) → r ≡ Equal
    go Less h = absurd (omega arith)
    go Equal h = refl
    go Greater h = absurd (omega arith)

cmp_greater : (m n : ℕ) → n < m → nat_cmp m n ≡ Greater
cmp_greater m n l = go (nat_cmp m n) (ranked m n (nat_cmp m n) refl)
  where
    go : (r : Ordering) → MatchOrdering r (m < n) (m ≡ n) (n < m) → r ≡ Greater
    go Less h = absurd (omega arith)
    go Equal h = absurd (omega arith)
    go Greater h = refl

cmp-plus : (m n k : ℕ) → nat_cmp (m + k) (n + k) ≡ nat_cmp m n
cmp-plus m n k = go (nat_cmp m n) (ranked m n (nat_cmp m n) refl)
  where
    go : (r : Ordering) → MatchOrdering r (m < n) (m ≡ n) (n < m) → nat_cmp (m + k) (n + k) ≡ r
    go Less h = cmp_less (m + k) (n + k) (omega arith)
    go Equal h = cmp_same (m + k) (n + k) (omega arith)
    go Greater h = cmp_greater (m + k) (n + k) (omega arith)

back_by_cost : (spec : Spec) (pattern p q : List ℕ) → cost spec pattern p < cost spec pattern q → back_cmp spec pattern p q ≡ Less
back_by_cost spec pattern p q l = ap (λ o. ordering_then o (slice_cmp nat_cmp (reverse p) (reverse q))) (cmp_less (cost spec pattern p) (cost spec pattern q) l)

-- at equal costs the last edges decide
back_by_edge : (spec : Spec) (pattern p q : List ℕ) (e f : ℕ) → cost spec pattern (p ++ (e ∷ [])) ≡ cost spec pattern (q ++ (f ∷ [])) → e < f → back_cmp spec pattern (p ++ (e ∷ [])) (q ++ (f ∷ [])) ≡ Less
back_by_edge spec pattern p q e f same l =
    ap (λ o. ordering_then o (slice_cmp nat_cmp (reverse (p ++ (e ∷ []))) (reverse (q ++ (f ∷ []))))) (cmp_same (cost spec pattern (p ++ (e ∷ []))) (cost spec pattern (q ++ (f ∷ []))) same)
    ∙ ap (λ z. slice_cmp nat_cmp z (reverse (q ++ (f ∷ [])))) (reverse-append p (e ∷ []))
    ∙ ap (λ z. slice_cmp nat_cmp (e ∷ reverse p) z) (reverse-append q (f ∷ []))
    ∙ ap (λ o. ordering_then o (slice_cmp nat_cmp (reverse p) (reverse q))) (cmp_less e f l)

back-more : (spec : Spec) (pattern p q : List ℕ) (e : ℕ) → back_cmp spec pattern (p ++ (e ∷ [])) (q ++ (e ∷ [])) ≡ back_cmp spec pattern p q
back-more spec pattern p q e =
    ap (λ z. ordering_then (nat_cmp z (cost spec pattern (q ++ (e ∷ [])))) (slice_cmp nat_cmp (reverse (p ++ (e ∷ []))) (reverse (q ++ (e ∷ []))))) (cost-more spec pattern p e)
    ∙ ap (λ z. ordering_then (nat_cmp (cost spec pattern p + edge_cost spec pattern e) z) (slice_cmp nat_cmp (reverse (p ++ (e ∷ []))) (reverse (q ++ (e ∷ []))))) (cost-more spec pattern q e)
    ∙ ap (λ z. ordering_then z (slice_cmp nat_cmp (reverse (p ++ (e ∷ []))) (reverse (q ++ (e ∷ []))))) (cmp-plus (cost spec pattern p) (cost spec pattern q) (edge_cost spec pattern e))
    ∙ ap (λ z. ordering_then (nat_cmp (cost spec pattern p) (cost spec pattern q)) (slice_cmp nat_cmp z (reverse (q ++ (e ∷ []))))) (reverse-append p (e ∷ []))
    ∙ ap (λ z. ordering_then (nat_cmp (cost spec pattern p) (cost spec pattern q)) (slice_cmp nat_cmp (e ∷ reverse p) z)) (reverse-append q (e ∷ []))
    ∙ ap (λ z. ordering_then (nat_cmp (cost spec pattern p) (cost spec pattern q)) (ordering_then z (slice_cmp nat_cmp (reverse p) (reverse q)))) (cmp_same e e refl)

not_after-more : (spec : Spec) (pattern p q : List ℕ) (e : ℕ) → IsNotAfter spec pattern p q → IsNotAfter spec pattern (p ++ (e ∷ [])) (q ++ (e ∷ []))
unfolding IsNotAfter
not_after-more spec pattern p q e (inl f) = inl (ap (λ z. z ++ (e ∷ [])) f)
not_after-more spec pattern p q e (inr l) = inr (back-more spec pattern p q e ∙ l)

-- ---- the last edge of a path

record IsLastEdge (spec : Spec) (u v : ℕ) (path front : List ℕ) (e : ℕ) : Type 0 where
  known : e < length spec.edges
  ends : EndsAt spec v e
  leads : IsPath spec u (edge_at spec e).from front
  whole : path ≡ front ++ (e ∷ [])

last_edge : (spec : Spec) (u v e : ℕ) (q : List ℕ) → IsPath spec u v (e ∷ q) → (front : List ℕ) × ((f : ℕ) × IsLastEdge spec u v (e ∷ q) front f)
last_edge spec u v e [] h = ([], (e, record { known = h.0; ends = h.2; leads = sym h.1; whole = refl }))
last_edge spec u v e (d ∷ q) h =
    let m : (front : List ℕ) × ((f : ℕ) × IsLastEdge spec (edge_at spec e).to v (d ∷ q) front f) = last_edge spec (edge_at spec e).to v d q h.2 in
    (e ∷ m.0, (m.1.0, record { known = m.1.1.known; ends = m.1.1.ends; leads = (h.0, h.1, m.1.1.leads); whole = ap (λ z. e ∷ z) m.1.1.whole }))

-- ---- the least path to a node, from those to the sources of its edges

module _ (spec : Spec) (pattern : List ℕ) where
  -- to the root the empty path
  pub root_path : IsRoot spec 0 → IsLeastTo spec pattern 0 []
  root_path root = record { leads = refl; least = only }
    where
      only : (q : List ℕ) → IsPath spec 0 0 q → ([] ≡ q) ⊎ (back_cmp spec pattern [] q ≡ Less)
      only [] h = inl refl
      only (e ∷ q) h =
          let m : (front : List ℕ) × ((f : ℕ) × IsLastEdge spec 0 0 (e ∷ q) front f) = last_edge spec 0 0 e q h in
          absurd (root.no_edge_in (subst (HasEdgeInto spec) m.1.1.ends (into_edge spec m.1.0 m.1.1.known)))

  -- the first edge that costs least behind the path to its source
  edge_before : (paths : List (List ℕ)) (v e f : ℕ) → IsFirstLeast (EndsAt spec v) (cost_by spec pattern paths) (length spec.edges) e → f < length spec.edges → EndsAt spec v f
      → IsNotAfter spec pattern (path_at paths (edge_at spec e).from ++ (e ∷ [])) (path_at paths (edge_at spec f).from ++ (f ∷ []))
  unfolding IsNotAfter
  edge_before paths v e f b l into =
      let p : List ℕ = path_at paths (edge_at spec e).from in
      let q : List ℕ = path_at paths (edge_at spec f).from in
      let left : cost spec pattern (p ++ (e ∷ [])) ≡ cost_by spec pattern paths e = cost-more spec pattern p e in
      let right : cost spec pattern (q ++ (f ∷ [])) ≡ cost_by spec pattern paths f = cost-more spec pattern q f in
      let le : cost_by spec pattern paths e ≤ cost_by spec pattern paths f = b.least f l into in
      elim (cases_eq e f) [
        | inl same ↦ inl (ap (λ z. path_at paths (edge_at spec z).from ++ (z ∷ [])) same)
        | inr other ↦ inr (elim (cases_lt (cost spec pattern (p ++ (e ∷ []))) (cost spec pattern (q ++ (f ∷ [])))) [
          | inl less ↦ back_by_cost spec pattern (p ++ (e ∷ [])) (q ++ (f ∷ [])) less
          | inr ge ↦ back_by_edge spec pattern p q e f (omega arith) (elim (cases_lt e f) [
            | inl before ↦ before
            | inr after ↦ absurd (let less : cost_by spec pattern paths e < cost_by spec pattern paths f = b.first f (omega arith) into in omega arith)
          ])
        ])
      ]

  pub step_path : (paths : List (List ℕ)) (v e : ℕ) → (v ≡ 0 → ⊥)
      → ((f : ℕ) → f < length spec.edges → EndsAt spec v f → IsLeastTo spec pattern (edge_at spec f).from (path_at paths (edge_at spec f).from))
      → IsFirstLeast (EndsAt spec v) (cost_by spec pattern paths) (length spec.edges) e → IsLeastTo spec pattern v (path_at paths (edge_at spec e).from ++ (e ∷ []))
  unfolding IsNotAfter
  step_path paths v e n g b = record {
    leads = subst (λ z. IsPath spec 0 z (path_at paths (edge_at spec e).from ++ (e ∷ []))) b.holds (path_more spec 0 e (path_at paths (edge_at spec e).from) b.below (g e b.below b.holds).leads);
    least = least;
  }
    where
      least : (q : List ℕ) → IsPath spec 0 v q → (path_at paths (edge_at spec e).from ++ (e ∷ []) ≡ q) ⊎ (back_cmp spec pattern (path_at paths (edge_at spec e).from ++ (e ∷ [])) q ≡ Less)
      least [] h = absurd (n (sym h))
      least (d ∷ q) h =
          let m : (front : List ℕ) × ((f : ℕ) × IsLastEdge spec 0 v (d ∷ q) front f) = last_edge spec 0 v d q h in
          let f : ℕ = m.1.0 in
          let k : IsLastEdge spec 0 v (d ∷ q) m.0 m.1.0 = m.1.1 in
          subst (IsNotAfter spec pattern (path_at paths (edge_at spec e).from ++ (e ∷ []))) (sym k.whole)
          (not_after_both spec pattern (path_at paths (edge_at spec e).from ++ (e ∷ [])) (path_at paths (edge_at spec m.1.0).from ++ (m.1.0 ∷ [])) (m.0 ++ (m.1.0 ∷ []))
          (edge_before paths v e m.1.0 b k.known k.ends)
          (not_after-more spec pattern (path_at paths (edge_at spec m.1.0).from) m.0 m.1.0 ((g m.1.0 k.known k.ends).least m.0 k.leads)))

  -- ---- the least path for a need

  -- at one last node the two orders are one
  same_end : (p q : List ℕ) → end_of spec 0 p ≡ end_of spec 0 q → path_cmp spec pattern p q ≡ back_cmp spec pattern p q
  same_end p q e =
      ap (λ z. ordering_then (nat_cmp (cost spec pattern p) (cost spec pattern q)) (ordering_then z (slice_cmp nat_cmp (reverse p) (reverse q)))) (cmp_same (end_of spec 0 p) (end_of spec 0 q) e)

  path_by_cost : (p q : List ℕ) → cost spec pattern p < cost spec pattern q → path_cmp spec pattern p q ≡ Less
  path_by_cost p q l =
      ap (λ o. ordering_then o (ordering_then (nat_cmp (end_of spec 0 p) (end_of spec 0 q)) (slice_cmp nat_cmp (reverse p) (reverse q)))) (cmp_less (cost spec pattern p) (cost spec pattern q) l)

  path_by_end : (p q : List ℕ) → cost spec pattern p ≡ cost spec pattern q → end_of spec 0 p < end_of spec 0 q → path_cmp spec pattern p q ≡ Less
  path_by_end p q same l =
      ap (λ o. ordering_then o (ordering_then (nat_cmp (end_of spec 0 p) (end_of spec 0 q)) (slice_cmp nat_cmp (reverse p) (reverse q)))) (cmp_same (cost spec pattern p) (cost spec pattern q) same)
      ∙ ap (λ o. ordering_then o (slice_cmp nat_cmp (reverse p) (reverse q))) (cmp_less (end_of spec 0 p) (end_of spec 0 q) l)

  not_dearer : (p q : List ℕ) → IsNotAfter spec pattern p q → cost spec pattern p ≤ cost spec pattern q
  unfolding IsNotAfter
  not_dearer p q (inl e) = let same : cost spec pattern p ≡ cost spec pattern q = ap (cost spec pattern) e in omega arith
  not_dearer p q (inr l) = go (nat_cmp (cost spec pattern p) (cost spec pattern q)) (ranked (cost spec pattern p) (cost spec pattern q) (nat_cmp (cost spec pattern p) (cost spec pattern q)) refl) l
    where
      go : (r : Ordering) → MatchOrdering r (cost spec pattern p < cost spec pattern q) (cost spec pattern p ≡ cost spec pattern q) (cost spec pattern q < cost spec pattern p)
          → ordering_then r (slice_cmp nat_cmp (reverse p) (reverse q)) ≡ Less → cost spec pattern p ≤ cost spec pattern q
      go Less h e = omega arith
      go Equal h e = omega arith
      go Greater h e = cc

  pub found_path : IsInRange spec → HasColumnAndNode spec → (paths : List (List ℕ)) (need : List ℕ) (v : ℕ) → ((w : ℕ) → w < length spec.nodes → IsLeastTo spec pattern w (path_at paths w))
      → IsFirstLeast (Binds spec need) (cost_to spec pattern paths) (length spec.nodes) v → IsLeastPath spec pattern need (path_at paths v)
  unfolding IsNotAfter
  found_path i some paths need v g b =
      let own : IsLeastTo spec pattern v (path_at paths v) = g v b.below in
      let end : end_of spec 0 (path_at paths v) ≡ v = path_end spec 0 v (path_at paths v) own.leads in
      record {
        path_for = record { from_root = subst (λ z. IsPath spec 0 z (path_at paths v)) (sym end) own.leads; binds = subst (Binds spec need) (sym end) b.holds };
        least = λ q f.
            let w : ℕ = end_of spec 0 q in
            let l : end_of spec 0 q < length spec.nodes = end_below spec i 0 (end_of spec 0 q) q some.node f.from_root in
            let other : IsLeastTo spec pattern (end_of spec 0 q) (path_at paths (end_of spec 0 q)) = g (end_of spec 0 q) l in
            let le : cost_to spec pattern paths v ≤ cost_to spec pattern paths (end_of spec 0 q) = b.least (end_of spec 0 q) l f.binds in
            let more : cost_to spec pattern paths (end_of spec 0 q) ≤ cost spec pattern q = not_dearer (path_at paths (end_of spec 0 q)) q (other.least q f.from_root) in
            elim (cases_eq v (end_of spec 0 q)) [
              | inl e ↦ elim (own.least q (subst (λ z. IsPath spec 0 z q) (sym e) f.from_root)) [
                | inl s ↦ inl s
                | inr m ↦ inr (same_end (path_at paths v) q (end ∙ e) ∙ m)
              ]
              | inr e ↦ inr (elim (cases_lt (cost_to spec pattern paths v) (cost spec pattern q)) [
                | inl less ↦ path_by_cost (path_at paths v) q less
                | inr ge ↦ path_by_end (path_at paths v) q (omega arith) (subst (λ z. z < end_of spec 0 q) (sym end) (elim (cases_lt v (end_of spec 0 q)) [
                  | inl before ↦ before
                  | inr after ↦ absurd (let dear : cost_to spec pattern paths v < cost_to spec pattern paths (end_of spec 0 q) = b.first (end_of spec 0 q) (omega arith) f.binds in omega arith)
                ]))
              ])
            ];
      }
