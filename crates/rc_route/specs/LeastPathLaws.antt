-- Laws of least paths and of chosen routes.
use Rattle.std.specs.Prelude.{◌≡◌, ℕ, zero, suc, ◌<◌, ◌≤◌, true, List, [], ◌∷◌, ◌⊎◌, ◌==◌, ◌↔◌, filter, map, reverse, length}
use Rattle.rc_route.specs.Imports.{flat_map, Ordering, Less, Equal, Greater, nat_cmp, ordering_then, MatchOrdering, slice_cmp, In, IsRising, gather, IsOrder, not_below_itself, rising_gather, in_gather, gather_in, in_filter, filter_in, in_map, map_in, in_flat_map, flat_map_in, number_lists_order, Within, is_within, within_from_test, test_from_within, in_range_bounds, in_range_below, then_equal, Spec, IsAdequate, all_columns, bound, edge_at, IsInRange, HasColumnAndNode}
use Rattle.std.proofs.Common.{inl, inr, refl, sym, ap, subst, ◌∙◌, arith}
use Rattle.std.proofs.lemmas.Bool.{eqb-true, eq-eqb, cases_eq}
use Rattle.std.proofs.lemmas.Cmp.{nat_cmp_total, then_total, on_total, ranked}
use Rattle.std.proofs.lemmas.List.{reverse-reverse}
use Rattle.rc_route.specs.GoodRoutes.{IsGoodRoute, all_edges}
use Rattle.rc_route.specs.ImpliedLaws.{within_decided}
use Rattle.rc_route.specs.Paths.{IsPath, end_of, cost, path_cmp, IsPathFor, IsLeastPath, SomeNodeBinds, IsChosenRoute, Least, Pruned}
use Rattle.rc_route.specs.PathsLaws.{HasPath, path_end, path_short, end_below, node_reached, paths_are_good}
use Rattle.rc_route.specs.PrunedWalk.{IsPrunedWalk}
use Rattle.rc_route.specs.PrunedWalkLaws.{walks_are_good, one_walk, has_walk}

-- ---- the order of paths

paths_tie : (spec : Spec) (pattern p q : List ℕ) → path_cmp spec pattern p q ≡ Equal → p ≡ q
paths_tie spec pattern p q e =
    let f : (nat_cmp (cost spec pattern p) (cost spec pattern q) ≡ Equal) × (ordering_then (nat_cmp (end_of spec 0 p) (end_of spec 0 q)) (slice_cmp nat_cmp (reverse p) (reverse q)) ≡ Equal) = then_equal _ _ e in
    let g : (nat_cmp (end_of spec 0 p) (end_of spec 0 q) ≡ Equal) × (slice_cmp nat_cmp (reverse p) (reverse q) ≡ Equal) = then_equal _ _ f.1 in
    let h : reverse p ≡ reverse q = number_lists_order.ties (reverse p) (reverse q) g.1 in
    sym (reverse-reverse p) ∙ ap reverse h ∙ reverse-reverse q

pub path_order : (spec : Spec) (pattern : List ℕ) → IsOrder (path_cmp spec pattern)
path_order spec pattern = record {
  total = then_total (on_total (λ (p : List ℕ). cost spec pattern p) nat_cmp_total)
      (then_total (on_total (λ (p : List ℕ). end_of spec 0 p) nat_cmp_total) (on_total (λ (p : List ℕ). reverse p) number_lists_order.total));
  ties = paths_tie spec pattern;
}

-- at most one path is least
abbrev pub OneLeastPath : Type 0
OneLeastPath = (spec : Spec) (pattern need a b : List ℕ) → IsLeastPath spec pattern need a → IsLeastPath spec pattern need b → a ≡ b

pub one_least_path : OneLeastPath
one_least_path spec pattern need a b f g =
    elim (f.least b g.path_for) [
      | inl e ↦ e
      | inr l ↦ elim (g.least a f.path_for) [ inl e ↦ sym e | inr m ↦ absurd (not_below_itself (path_cmp spec pattern) (path_order spec pattern) a b l m) ]
    ]

then_le : (m n : ℕ) (o : Ordering) → ordering_then (nat_cmp m n) o ≡ Less → m ≤ n
then_le m n o e = go (nat_cmp m n) (ranked m n (nat_cmp m n) refl) e
  where
    go : (r : Ordering) → MatchOrdering r (m < n) (m ≡ n) (n < m) → ordering_then r o ≡ Less → m ≤ n
    go Less h e = omega arith
    go Equal h e = omega arith
    go Greater h e = cc

-- it costs no more than any other path that binds the need
abbrev pub LeastPathsCostLeast : Type 0
LeastPathsCostLeast = (spec : Spec) (pattern need path other : List ℕ) → IsLeastPath spec pattern need path → IsPathFor spec need other → cost spec pattern path ≤ cost spec pattern other

pub least_paths_cost_least : LeastPathsCostLeast
least_paths_cost_least spec pattern need p q f g =
    elim (f.least q g) [
      | inl e ↦ (let h : cost spec pattern p ≡ cost spec pattern q = ap (cost spec pattern) e in omega arith)
      | inr l ↦ then_le (cost spec pattern p) (cost spec pattern q) (ordering_then (nat_cmp (end_of spec 0 p) (end_of spec 0 q)) (slice_cmp nat_cmp (reverse p) (reverse q))) l
    ]

-- ---- all paths

edges_out : Spec → ℕ → List ℕ
edges_out spec u = filter (λ e. (edge_at spec e).from == u) (all_edges spec)

-- the paths of at most n edges from a node
paths : Spec → ℕ → ℕ → List (List ℕ)
paths spec zero u = [] ∷ []
paths spec (suc n) u = [] ∷ flat_map (λ e. map (λ p. e ∷ p) (paths spec n (edge_at spec e).to)) (edges_out spec u)

path_listed : (spec : Spec) (n u v : ℕ) (p : List ℕ) → IsPath spec u v p → length p ≤ n → In p (paths spec n u)
unfolding paths edges_out
path_listed spec zero u v [] h l = inl refl
path_listed spec zero u v (e ∷ p) h l = absurd (omega arith)
path_listed spec (suc n) u v [] h l = inl refl
path_listed spec (suc n) u v (e ∷ p) h l =
    inr (flat_map_in (λ e. map (λ p. e ∷ p) (paths spec n (edge_at spec e).to)) (e ∷ p) e (edges_out spec u)
    (filter_in (λ e. (edge_at spec e).from == u) e (all_edges spec) (in_range_below (length spec.edges) e h.0) (eq-eqb (edge_at spec e).from u h.1))
    (map_in (λ p. e ∷ p) p (paths spec n (edge_at spec e).to) (path_listed spec n (edge_at spec e).to v p h.2 (omega arith))))

listed_path : (spec : Spec) (n u : ℕ) (p : List ℕ) → In p (paths spec n u) → IsPath spec u (end_of spec u p) p
unfolding paths edges_out
listed_path spec zero u p (inl e) = subst (λ z. IsPath spec u (end_of spec u z) z) (sym e) refl
listed_path spec zero u p (inr z) = absurd z
listed_path spec (suc n) u p (inl e) = subst (λ z. IsPath spec u (end_of spec u z) z) (sym e) refl
listed_path spec (suc n) u p (inr h) =
    let q : (e : ℕ) × In e (edges_out spec u) × In p (map (λ p. e ∷ p) (paths spec n (edge_at spec e).to)) =
    in_flat_map (λ e. map (λ p. e ∷ p) (paths spec n (edge_at spec e).to)) p (edges_out spec u) h in
    let o : In q.0 (all_edges spec) × (((edge_at spec q.0).from == u) ≡ true) = in_filter (λ e. (edge_at spec e).from == u) q.0 (all_edges spec) q.1 in
    let m : (t : List ℕ) × In t (paths spec n (edge_at spec q.0).to) × (p ≡ q.0 ∷ t) = in_map (λ p. q.0 ∷ p) p (paths spec n (edge_at spec q.0).to) q.2 in
    let l = in_range_bounds 0 (length spec.edges) q.0 o.0 in
    subst (λ z. IsPath spec u (end_of spec u z) z) (sym m.2)
    (omega (arith, l.1), eqb-true (edge_at spec q.0).from u o.1, listed_path spec n (edge_at spec q.0).to m.0 m.1)

-- ---- the first of those that bind the need

candidates : Spec → List ℕ → List (List ℕ)
candidates spec need = filter (λ p. is_within need (bound spec (end_of spec 0 p))) (paths spec (length spec.nodes) 0)

in_candidates : (spec : Spec) (need p : List ℕ) → In p (candidates spec need) → IsPathFor spec need p
unfolding candidates
in_candidates spec need p h =
    let q : In p (paths spec (length spec.nodes) 0) × (is_within need (bound spec (end_of spec 0 p)) ≡ true) = in_filter (λ p. is_within need (bound spec (end_of spec 0 p))) p (paths spec (length spec.nodes) 0) h in
    record { from_root = listed_path spec (length spec.nodes) 0 p q.0; binds = within_from_test need (bound spec (end_of spec 0 p)) q.1 }

candidates_in : (spec : Spec) → IsInRange spec → IsAdequate spec → (need p : List ℕ) → IsPathFor spec need p → In p (candidates spec need)
unfolding candidates
candidates_in spec i a need p f =
    filter_in (λ p. is_within need (bound spec (end_of spec 0 p))) p (paths spec (length spec.nodes) 0)
    (path_listed spec (length spec.nodes) 0 (end_of spec 0 p) p f.from_root (path_short spec i a 0 (end_of spec 0 p) p f.from_root))
    (test_from_within need (bound spec (end_of spec 0 p)) f.binds)

-- a list with an element has a least one
record IsLeastIn {A : Type 0} (R : A → A → Ordering) (xs : List A) (x : A) : Type 0 where
  member : In x xs
  least : (y : A) → In y xs → (x ≡ y) ⊎ (R x y ≡ Less)

first_least : {A : Type 0} (R : A → A → Ordering) (xs : List A) → IsRising R xs → (y : A) → In y xs → (x : A) × IsLeastIn R xs x
first_least R [] r y h = absurd h
first_least R (x ∷ xs) r y h = (x, record { member = inl refl; least = λ z k. elim k [ inl e ↦ inl (sym e) | inr m ↦ inr (r.0 z m) ] })

has_least : (spec : Spec) → IsInRange spec → IsAdequate spec → (pattern need p : List ℕ) → IsPathFor spec need p → (path : List ℕ) × IsLeastPath spec pattern need path
has_least spec i a pattern need p f =
    let o : IsOrder (path_cmp spec pattern) = path_order spec pattern in
    let all : List (List ℕ) = gather (path_cmp spec pattern) (candidates spec need) in
    let q : (x : List ℕ) × IsLeastIn (path_cmp spec pattern) (gather (path_cmp spec pattern) (candidates spec need)) x =
    first_least (path_cmp spec pattern) (gather (path_cmp spec pattern) (candidates spec need)) (rising_gather (path_cmp spec pattern) o (candidates spec need)) p
    (gather_in (path_cmp spec pattern) o p (candidates spec need) (candidates_in spec i a need p f)) in (
      q.0,
      record {
        path_for = in_candidates spec need q.0 (in_gather (path_cmp spec pattern) o q.0 (candidates spec need) q.1.member);
        least = λ t g. q.1.least t (gather_in (path_cmp spec pattern) o t (candidates spec need) (candidates_in spec i a need t g));
      },
    )

-- ---- there is one exactly where some node binds the need

path_for_node : (spec : Spec) → IsAdequate spec → (need : List ℕ) → SomeNodeBinds spec need → (path : List ℕ) × IsPathFor spec need path
path_for_node spec a need b =
    let p : HasPath spec b.0 = node_reached spec a b.0 b.1 in
    let w : end_of spec 0 p.0 ≡ b.0 = path_end spec 0 b.0 p.0 p.1 in
    (p.0, record { from_root = subst (λ z. IsPath spec 0 z p.0) (sym w) p.1; binds = subst (λ z. Within need (bound spec z)) (sym w) b.2 })

abbrev pub LeastPathsExist : Type 0
LeastPathsExist = (spec : Spec) → IsInRange spec → HasColumnAndNode spec → IsAdequate spec → (pattern need : List ℕ) → ((path : List ℕ) × IsLeastPath spec pattern need path) ↔ SomeNodeBinds spec need

pub least_paths_exist : LeastPathsExist
least_paths_exist spec i some a pattern need = (
  (λ l. (end_of spec 0 l.0, end_below spec i 0 (end_of spec 0 l.0) l.0 some.node l.1.path_for.from_root, l.1.path_for.binds)),
  λ b. let p : (path : List ℕ) × IsPathFor spec need path = path_for_node spec a need b in has_least spec i a pattern need p.0 p.1,
)

-- ---- chosen routes

binds_decided : (spec : Spec) (need : List ℕ) (n : ℕ) → n ≤ length spec.nodes → ((v : ℕ) × (v < n) × Within need (bound spec v)) ⊎ ((v : ℕ) → v < n → Within need (bound spec v) → ⊥)
binds_decided spec need zero l = inr (λ v less w. omega arith)
binds_decided spec need (suc n) l = elim (within_decided need (bound spec n)) [
  | inl w ↦ inl (n, omega arith, w)
  | inr out ↦ elim (binds_decided spec need n (omega arith)) [
    | inl q ↦ inl (q.0, (let less : q.0 < n = q.1 in omega arith), q.2)
    | inr none ↦ inr (λ v less w. absurd (last v less w out none))
  ]
]
  where
    last : (v : ℕ) → v < suc n → Within need (bound spec v) → (Within need (bound spec n) → ⊥) → ((v : ℕ) → v < n → Within need (bound spec v) → ⊥) → ⊥
    last v less w out none = elim (cases_eq v n) [ inl e ↦ out (subst (λ z. Within need (bound spec z)) e w) | inr e ↦ none v (omega arith) w ]

abbrev pub ChosenRoutesAreGood : Type 0
ChosenRoutesAreGood = (spec : Spec) → HasColumnAndNode spec → IsAdequate spec → (pattern need route : List ℕ) → Within need (all_columns spec) → IsChosenRoute spec pattern need route → IsGoodRoute spec need route

pub chosen_routes_are_good : ChosenRoutesAreGood
chosen_routes_are_good spec some a pattern need route w (Least l) = paths_are_good spec some a need route l.path_for
chosen_routes_are_good spec some a pattern need route w (Pruned none p) = walks_are_good spec a need route w p

-- a least path ends at a node that binds the need
least_binds : (spec : Spec) → IsInRange spec → HasColumnAndNode spec → (pattern need path : List ℕ) → IsLeastPath spec pattern need path → SomeNodeBinds spec need
least_binds spec i some pattern need p l = (end_of spec 0 p, end_below spec i 0 (end_of spec 0 p) p some.node l.path_for.from_root, l.path_for.binds)

abbrev pub OneChosenRoute : Type 0
OneChosenRoute = (spec : Spec) → IsInRange spec → HasColumnAndNode spec → (pattern need a b : List ℕ) → IsChosenRoute spec pattern need a → IsChosenRoute spec pattern need b → a ≡ b

pub one_chosen_route : OneChosenRoute
one_chosen_route spec i some pattern need a b (Least l) (Least m) = one_least_path spec pattern need a b l m
one_chosen_route spec i some pattern need a b (Least l) (Pruned none q) = absurd (none (least_binds spec i some pattern need a l))
one_chosen_route spec i some pattern need a b (Pruned none p) (Least m) = absurd (none (least_binds spec i some pattern need b m))
one_chosen_route spec i some pattern need a b (Pruned none p) (Pruned never q) = one_walk spec need a b p q

abbrev pub HasChosenRoute : Type 0
HasChosenRoute = (spec : Spec) → IsInRange spec → HasColumnAndNode spec → IsAdequate spec → (pattern need : List ℕ) → (route : List ℕ) × IsChosenRoute spec pattern need route

pub has_chosen_route : HasChosenRoute
has_chosen_route spec i some a pattern need = elim (binds_decided spec need (length spec.nodes) (omega arith)) [
  | inl b ↦ (let l : (path : List ℕ) × IsLeastPath spec pattern need path = (least_paths_exist spec i some a pattern need).1 b in (l.0, Least l.1))
  | inr none ↦ (let w : (walk : List ℕ) × IsPrunedWalk spec need walk = has_walk spec i need in (w.0, Pruned (λ b. none b.0 b.1 b.2) w.1))
]
