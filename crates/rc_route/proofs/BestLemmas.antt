-- The loops that look for the first of those that cost least, and the table of paths.
use Rattle.std.proofs.Common.{◌≡◌, ℕ, zero, suc, ◌+◌, ◌<◌, ◌≤◌, ◌⊎◌, ◌++◌, ◌∷◌, [], Option, None, Some, List, length, take, get_or, inl, inr, refl, sym, ap, subst, ◌∙◌, arith}
use Rattle.rc_route.proofs.Imports.{MatchOption, set, length-set, cases_eq, take_more, In, in_append, Spec, IsSealed, HasEdgeInto, edge_at, edge_at_in, EachHolds, IsNext, IsTopologicalOrder, IsPath, end_of, IsPathFromRoot, path_end, path_short, edges_known, in_get, edge_into, into_edge, IsFirstLeast, IsFirstLeastOrNone, path_at, IsLeastTo, EndsAt, cost_by, AreLeastPaths, least_passes, least_keeps, least_begins, least_takes, root_path, step_path}

-- ---- the best so far, with what it costs, or else more than anything costs

pub record IsBestSoFar (P : ℕ → Type 0) (price : ℕ → ℕ) (top limit : ℕ) (best : Option ℕ) (lowest : ℕ) : Type 0 where
  pub found : IsFirstLeastOrNone P price limit best
  pub costs : MatchOption best (lowest ≡ top) (λ n. lowest ≡ price n)

pub best_passes : (P : ℕ → Type 0) (price : ℕ → ℕ) (top limit : ℕ) (best : Option ℕ) (lowest : ℕ) → (P limit → ⊥) → IsBestSoFar P price top limit best lowest → IsBestSoFar P price top (limit + 1) best lowest
best_passes P price top limit best lowest out h = record { found = least_passes P price limit best out h.found; costs = h.costs }

pub best_takes : (P : ℕ → Type 0) (price : ℕ → ℕ) (top limit : ℕ) (best : Option ℕ) (lowest now : ℕ) → P limit → now ≡ price limit → now < lowest
    → IsBestSoFar P price top limit best lowest → IsBestSoFar P price top (limit + 1) (Some limit) now
best_takes P price top limit None lowest now here e less h = record { found = least_begins P price limit here h.found; costs = e }
best_takes P price top limit (Some n) lowest now here e less h =
    let q : lowest ≡ price n = h.costs in
    record { found = least_takes P price limit n here (omega arith) h.found; costs = e }

pub best_keeps : (P : ℕ → Type 0) (price : ℕ → ℕ) (top limit : ℕ) (best : Option ℕ) (lowest now : ℕ) → now ≡ price limit → now < top → lowest ≤ now
    → IsBestSoFar P price top limit best lowest → IsBestSoFar P price top (limit + 1) best lowest
best_keeps P price top limit None lowest now e below le h = let q : lowest ≡ top = h.costs in absurd (omega arith)
best_keeps P price top limit (Some n) lowest now e below le h =
    let q : lowest ≡ price n = h.costs in
    record { found = least_keeps P price limit n (omega arith) h.found; costs = h.costs }

-- ---- paths from the root have few edges, each of them the specification's

pub path_edges : (spec : Spec) (p : List ℕ) → IsPathFromRoot spec p → (e : ℕ) → In e p → e < length spec.edges
path_edges spec p h e m = edges_known spec 0 (end_of spec 0 p) p h e m

pub path_few : (spec : Spec) → IsSealed spec → (p : List ℕ) → IsPathFromRoot spec p → length p ≤ 16
path_few spec s p h =
    let l : length p ≤ length spec.nodes = path_short spec s.in_range s.accepted.adequate 0 (end_of spec 0 p) p h in
    let n : length spec.nodes ≤ 16 = s.in_range.nodes in omega arith

pub path_from : (spec : Spec) (v : ℕ) (p : List ℕ) → IsPath spec 0 v p → IsPathFromRoot spec p
path_from spec v p h = subst (λ z. IsPath spec 0 z p) (sym (path_end spec 0 v p h)) h

-- ---- the table of paths

-- what the search keeps of its table: all are paths from the root, and that of the root stays empty
pub record IsTable (spec : Spec) (pattern done : List ℕ) (paths : List (List ℕ)) : Type 0 where
  pub least : AreLeastPaths spec pattern done paths
  pub begin : EachHolds (IsPathFromRoot spec) paths
  pub root : path_at paths 0 ≡ []

-- the node at a place of the order
pub in_done : (order : List ℕ) (k v : ℕ) → k < length order → In v (take (k + 1) order) → In v (take k order) ⊎ (v ≡ get_or order k 0)
in_done order k v l m = elim (in_append v (take k order) (get_or order k 0 ∷ []) (subst (In v) (take_more order k 0 l) m)) [
  | inl a ↦ inl a
  | inr b ↦ elim b [ inl e ↦ inr e | inr z ↦ absurd z ]
]

-- a node that no edge enters is the root
not_entered : (spec : Spec) → IsSealed spec → (v : ℕ) → v < length spec.nodes → ((e : ℕ) → e < length spec.edges → EndsAt spec v e → ⊥) → v ≡ 0
not_entered spec s zero l none = refl
not_entered spec s (suc v) l none =
    let e : (e : ℕ) × (e < length spec.edges) × ((edge_at spec e).to ≡ suc v) = edge_into spec (suc v) (s.accepted.adequate.a1 (suc v) l) in absurd (none e.0 e.1 e.2)

-- and is a node of the table where it comes next: its path stays empty
pub table_root : (spec : Spec) → IsSealed spec → (pattern order : List ℕ) (paths : List (List ℕ)) (k : ℕ) → k < length order
    → ((e : ℕ) → e < length spec.edges → EndsAt spec (get_or order k 0) e → ⊥) → IsTable spec pattern (take k order) paths → IsTable spec pattern (take (k + 1) order) paths
table_root spec s pattern order paths k l none t = record {
  least = record {
    count = t.least.count;
    each = λ v m d. elim (in_done order k v l d) [ inl old ↦ t.least.each v m old | inr e ↦ here v m e ];
  };
  begin = t.begin;
  root = t.root;
}
  where
    here : (v : ℕ) → v < length spec.nodes → v ≡ get_or order k 0 → IsLeastTo spec pattern v (path_at paths v)
    here v m e =
        let z : v ≡ 0 = not_entered spec s v m (λ f n q. none f n (q ∙ e)) in
        subst (λ u. IsLeastTo spec pattern u (path_at paths u)) (sym z)
        (subst (IsLeastTo spec pattern 0) (sym t.root) (root_path spec pattern (s.accepted.adequate.a1 0 s.populated.node)))

-- a changed table, at the changed node and elsewhere
set_at : (paths : List (List ℕ)) (v : ℕ) (p : List ℕ) → v < length paths → path_at (set paths v p) v ≡ p
set_at [] v p l = absurd (omega arith)
set_at (q ∷ paths) zero p l = refl
set_at (q ∷ paths) (suc v) p l = set_at paths v p (omega arith)

set_off : (paths : List (List ℕ)) (u v : ℕ) (p : List ℕ) → (u ≡ v → ⊥) → path_at (set paths v p) u ≡ path_at paths u
set_off [] u v p n = refl
set_off (q ∷ paths) zero zero p n = absurd (n refl)
set_off (q ∷ paths) zero (suc v) p n = refl
set_off (q ∷ paths) (suc u) zero p n = refl
set_off (q ∷ paths) (suc u) (suc v) p n = set_off paths u v p (λ e. n (ap suc e))

in_set : {A : Type 0} (xs : List A) (i : ℕ) (x y : A) → In y (set xs i x) → (y ≡ x) ⊎ In y xs
in_set [] i x y m = absurd m
in_set (z ∷ xs) zero x y (inl e) = inl e
in_set (z ∷ xs) zero x y (inr m) = inr (inr m)
in_set (z ∷ xs) (suc i) x y (inl e) = inr (inl e)
in_set (z ∷ xs) (suc i) x y (inr m) = elim (in_set xs i x y m) [ inl e ↦ inl e | inr n ↦ inr (inr n) ]

-- a least path to a node that comes next
table_put : (spec : Spec) (pattern order : List ℕ) (paths : List (List ℕ)) (k : ℕ) (path : List ℕ) → k < length order → get_or order k 0 < length spec.nodes → (get_or order k 0 ≡ 0 → ⊥)
    → IsLeastTo spec pattern (get_or order k 0) path → IsTable spec pattern (take k order) paths → IsTable spec pattern (take (k + 1) order) (set paths (get_or order k 0) path)
table_put spec pattern order paths k path l known other step t = record {
  least = record {
    count = length-set {A = List ℕ} paths (get_or order k 0) path ∙ t.least.count;
    each = λ v m d. elim (cases_eq v (get_or order k 0)) [
      | inl here ↦ subst (λ u. IsLeastTo spec pattern u (path_at (set paths (get_or order k 0) path) u)) (sym here)
          (subst (IsLeastTo spec pattern (get_or order k 0)) (sym (set_at paths (get_or order k 0) path (let c : length paths ≡ length spec.nodes = t.least.count in omega arith))) step)
      | inr off ↦ subst (IsLeastTo spec pattern v) (sym (set_off paths v (get_or order k 0) path off))
          (elim (in_done order k v l d) [ inl old ↦ t.least.each v m old | inr same ↦ absurd (off same) ])
    ];
  };
  begin = λ p m. elim (in_set paths (get_or order k 0) path p m) [
    | inl same ↦ subst (IsPathFromRoot spec) (sym same) (path_from spec (get_or order k 0) path step.leads)
    | inr old ↦ t.begin p old
  ];
  root = set_off paths 0 (get_or order k 0) path (λ z. other (sym z)) ∙ t.root;
}

-- the path by the best edge into the node
pub table_step : (spec : Spec) → IsSealed spec → (pattern order : List ℕ) → IsTopologicalOrder spec order → (paths : List (List ℕ)) (k e : ℕ) → k < length order
    → IsFirstLeast (EndsAt spec (get_or order k 0)) (cost_by spec pattern paths) (length spec.edges) e
    → IsTable spec pattern (take k order) paths → IsTable spec pattern (take (k + 1) order) (set paths (get_or order k 0) (path_at paths (edge_at spec e).from ++ (e ∷ [])))
table_step spec s pattern order top paths k e l b t =
    let next : IsNext spec (take k order) (get_or order k 0) = top.next k l in
    let other : get_or order k 0 ≡ 0 → ⊥ = λ z. (s.accepted.adequate.a1 0 s.populated.node).no_edge_in (subst (HasEdgeInto spec) (b.holds ∙ z) (into_edge spec e b.below)) in
    table_put spec pattern order paths k (path_at paths (edge_at spec e).from ++ (e ∷ [])) l next.can.known other
    (step_path spec pattern paths (get_or order k 0) e other
    (λ f m ends. t.least.each (edge_at spec f).from (s.in_range.known_edges (edge_at spec f) (edge_at_in spec f m)).from (next.can.sources (edge_at spec f) (edge_at_in spec f m) ends)) b)
    t

-- empty paths
pub empty_at : (paths : List (List ℕ)) → EachHolds (λ path. path ≡ []) paths → (v : ℕ) → path_at paths v ≡ []
empty_at [] h v = refl
empty_at (p ∷ paths) h zero = h p (inl refl)
empty_at (p ∷ paths) h (suc v) = empty_at paths (λ q m. h q (inr m)) v

pub table_start : (spec : Spec) (pattern order : List ℕ) (paths : List (List ℕ)) → length paths ≡ length spec.nodes → EachHolds (λ path. path ≡ []) paths → IsTable spec pattern (take 0 order) paths
table_start spec pattern order paths count empty = record {
  least = record { count = count; each = λ v m d. absurd d };
  begin = λ p m. subst (IsPathFromRoot spec) (sym (empty p m)) refl;
  root = empty_at paths empty 0;
}

-- ---- least paths to all nodes

pub least_to : (spec : Spec) (pattern order : List ℕ) (paths : List (List ℕ)) → IsTopologicalOrder spec order → AreLeastPaths spec pattern order paths → (v : ℕ) → v < length spec.nodes → IsLeastTo spec pattern v (path_at paths v)
least_to spec pattern order paths top a v l = a.each v l (top.all v l)

pub least_begin : (spec : Spec) (pattern order : List ℕ) (paths : List (List ℕ)) → IsTopologicalOrder spec order → AreLeastPaths spec pattern order paths → EachHolds (IsPathFromRoot spec) paths
least_begin spec pattern order paths top a p m =
    let q : (n : ℕ) × (n < length paths) × (get_or paths n [] ≡ p) = in_get paths p [] m in
    let count : length paths ≡ length spec.nodes = a.count in
    let l : q.0 < length paths = q.1 in
    subst (IsPathFromRoot spec) q.2 (path_from spec q.0 (path_at paths q.0) (least_to spec pattern order paths top a q.0 (omega arith)).leads)
