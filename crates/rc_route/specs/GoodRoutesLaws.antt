-- Laws of good routes.
use Rattle.std.specs.Prelude.{◌≡◌, ℕ, zero, suc, ◌+◌, ◌<◌, List, [], ◌∷◌, ◌++◌, ◌⊎◌, map, take, length}
use Rattle.rc_route.specs.Imports.{range_with_len, In, in_append, in_has, has_in, has, Within, union, inter, in_range_bounds, Edge, Spec, IsAdequate, IsLossless, KeepsA6, visited, all_columns, edge_at, no_edge, target_columns, visited_more, IsInRange}
use Rattle.std.proofs.Common.{inl, inr, sym, ap, subst, ◌∙◌, arith}
use Rattle.std.proofs.lemmas.Bool.{false≢true, cases_Bool, cases_eq, cases_lt}
use Rattle.std.proofs.lemmas.List.{take_more, map-append}
use Rattle.rc_route.specs.GoodRoutes.{all_edges, IsStep, IsGoodFrom, IsGoodRoute}
use Rattle.rc_route.specs.ImpliedLaws.{IsDecided, both_decided, either_decided, within_decided, follows_decided}

-- ---- where more nodes were reached

step_reached : (spec : Spec) (some more visited : List ℕ) (e : ℕ) → Within some more → IsStep spec some visited e → IsStep spec more visited e
step_reached spec some more visited e w s = record {
  known = s.known;
  source = elim s.source [ inl q ↦ inl q | inr m ↦ inr (w (edge_at spec e).from m) ];
  lossless = s.lossless;
}

more_reached : (some more : List ℕ) (v : ℕ) → Within some more → Within (v ∷ some) (v ∷ more)
more_reached some more v w u (inl e) = inl e
more_reached some more v w u (inr m) = inr (w u m)

pub good_reached : (spec : Spec) (need some more visited es : List ℕ) → Within some more → IsGoodFrom spec need some visited es → IsGoodFrom spec need more visited es
good_reached spec need some more visited [] w g = g
good_reached spec need some more visited (e ∷ es) w g = (
  step_reached spec some more visited e w g.0,
  good_reached spec need ((edge_at spec e).to ∷ some) ((edge_at spec e).to ∷ more) (union visited (target_columns spec e)) es (more_reached some more (edge_at spec e).to w) g.1,
)

-- ---- its edges are the specification's

good_from_known : (spec : Spec) (need reached visited es : List ℕ) → IsGoodFrom spec need reached visited es → (e : ℕ) → In e es → e < length spec.edges
good_from_known spec need reached visited [] g e m = absurd m
good_from_known spec need reached visited (d ∷ es) g e (inl q) = subst (λ z. z < length spec.edges) (sym q) g.0.known
good_from_known spec need reached visited (d ∷ es) g e (inr m) = good_from_known spec need ((edge_at spec d).to ∷ reached) (union visited (target_columns spec d)) es g.1 e m

pub good_known : (spec : Spec) (need route : List ℕ) → IsGoodRoute spec need route → (e : ℕ) → In e route → e < length spec.edges
good_known spec need route g e m = good_from_known spec need [] [] route g e m

-- ---- all edges

targets_more : (spec : Spec) (k : ℕ) (reached : List ℕ) → k < length spec.edges → Within (map (λ (e : Edge). e.to) (take k spec.edges)) reached
    → Within (map (λ (e : Edge). e.to) (take (k + 1) spec.edges)) ((edge_at spec k).to ∷ reached)
targets_more spec k reached l w v m =
    let split : map (λ (e : Edge). e.to) (take (k + 1) spec.edges) ≡ map (λ (e : Edge). e.to) (take k spec.edges) ++ (edge_at spec k).to ∷ [] =
    ap (map (λ (e : Edge). e.to)) (take_more spec.edges k no_edge l) ∙ map-append (λ (e : Edge). e.to) (take k spec.edges) (edge_at spec k ∷ []) in
    elim (in_append v (map (λ (e : Edge). e.to) (take k spec.edges)) ((edge_at spec k).to ∷ []) (subst (In v) split m)) [
      | inl a ↦ inr (w v a)
      | inr b ↦ elim b [ inl q ↦ inl q | inr z ↦ absurd z ]
    ]

good_from_edge : (spec : Spec) → IsAdequate spec → (need : List ℕ) → Within need (all_columns spec) → (n k : ℕ) (reached : List ℕ) → k + n ≡ length spec.edges
    → Within (map (λ (e : Edge). e.to) (take k spec.edges)) reached → IsGoodFrom spec need reached (visited spec k) (range_with_len k n)
good_from_edge spec a need w zero k reached l r = λ c h.
    let all : k ≡ length spec.edges = omega arith in
    subst (λ z. In c (visited spec z)) (sym all) (a.a7 c (let q = in_range_bounds 0 (length spec.columns) c (w c h) in omega (arith, q.1)))
good_from_edge spec a need w (suc n) k reached l r =
    let within : k < length spec.edges = omega arith in
    let own : KeepsA6 spec k = a.a6 k within in
    let rest : IsGoodFrom spec need ((edge_at spec k).to ∷ reached) (visited spec (k + 1)) (range_with_len (k + 1) n) =
    good_from_edge spec a need w n (k + 1) ((edge_at spec k).to ∷ reached) (omega arith) (targets_more spec k reached within r) in (
      record { known = within; source = elim own.reached [ inl q ↦ inl q | inr m ↦ inr (r (edge_at spec k).from m) ]; lossless = own.lossless },
      subst (λ z. IsGoodFrom spec need ((edge_at spec k).to ∷ reached) z (range_with_len (k + 1) n)) (visited_more spec k within) rest,
    )

-- all edges in written order are a good route, by A6 and A7
pub all_edges_good : (spec : Spec) → IsAdequate spec → (need : List ℕ) → Within need (all_columns spec) → IsGoodRoute spec need (all_edges spec)
all_edges_good spec a need w = good_from_edge spec a need w (length spec.edges) 0 [] (omega arith) (λ v m. m)

-- ---- whether a route is good can be decided

lossless_decided : (spec : Spec) → IsInRange spec → (xs ys : List ℕ) → IsDecided (IsLossless spec xs ys)
lossless_decided spec i xs ys =
    either_decided (follows_decided spec.deps (λ d m. (i.known_deps d m).right.set) (inter xs ys) xs) (follows_decided spec.deps (λ d m. (i.known_deps d m).right.set) (inter xs ys) ys)

step_decided : (spec : Spec) → IsInRange spec → (reached visited : List ℕ) (e : ℕ) → IsDecided (IsStep spec reached visited e)
step_decided spec i reached visited e = go (elim (cases_lt e (length spec.edges)) [ inl l ↦ inl l | inr m ↦ inr (λ l. omega arith) ])
    (either_decided (cases_eq (edge_at spec e).from 0)
    (elim (cases_Bool (has reached (edge_at spec e).from)) [ inl q ↦ inl (in_has reached (edge_at spec e).from q) | inr q ↦ inr (λ m. false≢true (sym q ∙ has_in reached (edge_at spec e).from m)) ]))
    (lossless_decided spec i visited (target_columns spec e))
  where
    go : IsDecided (e < length spec.edges) → IsDecided (((edge_at spec e).from ≡ 0) ⊎ In (edge_at spec e).from reached) → IsDecided (IsLossless spec visited (target_columns spec e))
        → IsDecided (IsStep spec reached visited e)
    go (inl a) (inl b) (inl c) = inl (record { known = a; source = b; lossless = c })
    go (inl a) (inl b) (inr c) = inr (λ s. c s.lossless)
    go (inl a) (inr b) d = inr (λ s. b s.source)
    go (inr a) c d = inr (λ s. a s.known)

good_from_decided : (spec : Spec) → IsInRange spec → (need reached visited es : List ℕ) → IsDecided (IsGoodFrom spec need reached visited es)
good_from_decided spec i need reached visited [] = within_decided need visited
good_from_decided spec i need reached visited (e ∷ es) =
    both_decided (step_decided spec i reached visited e) (good_from_decided spec i need ((edge_at spec e).to ∷ reached) (union visited (target_columns spec e)) es)

pub good_decided : (spec : Spec) → IsInRange spec → (need route : List ℕ) → IsDecided (IsGoodRoute spec need route)
good_decided spec i need route = good_from_decided spec i need [] [] route
