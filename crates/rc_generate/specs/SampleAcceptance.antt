-- The sample keeps all rules: it is adequate and well placed, and its operations keep their rules.
use Rattle.std.proofs.Common.{◌≡◌, ℕ, ◌+◌, ◌<◌, ◌≤◌, List, [], ◌∷◌, length, true, refl, subst, inl, inr, arith}
use Rattle.rc_generate.specs.Imports.{range_with_len, AllByRecursion, In, each_in, is_within, inter, in_range_below, within_from_test, inter_in, Follows, follows_subset, follows_dependency, follows_union, Edge, Query, bound, edge_at, source_and_key, IsWalk, IsCircle, IsRoot, KeepsA1, KeepsA3, KeepsA4, KeepsA5, KeepsA6, KeepsA7, IsAdequate, class_at, class_of, op_at, striping, KeepsP1, KeepsP2, KeepsP3, KeepsP4, KeepsP5, KeepsP6, IsPlaced, KeepsO, AreOuts, IsAccepted}
use Rattle.rc_generate.specs.Sample.{sample_graph}

-- what holds of each of the first numbers
at_each : (P : ℕ → Type 0) (n : ℕ) → AllByRecursion P (range_with_len 0 n) → (k : ℕ) → k < n → P k
at_each P n h k m = each_in P (range_with_len 0 n) h k (in_range_below n k m)

-- ---- what the dependency implies

subset : (xs ys : List ℕ) → is_within ys xs ≡ true → Follows sample_graph.deps xs ys
subset xs ys h = follows_subset sample_graph.deps xs ys (within_from_test ys xs h)

weight_follows : Follows sample_graph.deps (0 ∷ 1 ∷ []) (2 ∷ [])
weight_follows = follows_dependency sample_graph.deps (record { left = 0 ∷ 1 ∷ []; right = 2 ∷ [] }) (inl refl)

all_follow : Follows sample_graph.deps (0 ∷ 1 ∷ []) (0 ∷ 1 ∷ 2 ∷ [])
all_follow = follows_union sample_graph.deps (0 ∷ 1 ∷ []) (0 ∷ 1 ∷ []) (2 ∷ []) (subset (0 ∷ 1 ∷ []) (0 ∷ 1 ∷ []) refl) weight_follows

-- ---- adequacy

-- each edge leads to the next node
leads_on : (e : Edge) → In e sample_graph.edges → e.to ≡ e.from + 1
leads_on e m = each_in (λ (x : Edge). x.to ≡ x.from + 1) sample_graph.edges (refl, (refl, (refl, tt))) e m

walk_climbs : (u v : ℕ) (es : List Edge) → IsWalk sample_graph u v es → u + length es ≡ v
walk_climbs u v [] h = omega (arith, h)
walk_climbs u v (e ∷ es) (m, from, rest) =
    let on : e.to ≡ e.from + 1 = leads_on e m in
    let later : e.to + length es ≡ v = walk_climbs e.to v es rest in
    omega (arith, from, on, later)

no_circle : (es : List Edge) → IsCircle sample_graph es → ⊥
no_circle [] h = h
no_circle (e ∷ es) h = let climbs : e.from + length (e ∷ es) ≡ e.from = walk_climbs e.from e.from (e ∷ es) h in omega (arith, climbs)

root : IsRoot sample_graph 0
root = record {
  nothing = refl;
  no_edge_in = λ w. each_in (λ (x : Edge). x.to ≡ 0 → ⊥) sample_graph.edges (λ q. omega (arith, q), (λ q. omega (arith, q), (λ q. omega (arith, q), tt))) w.0 w.1 w.2;
  edge_out = (edge_at sample_graph 0, inl refl, refl);
}

a1 : (v : ℕ) → v < 4 → KeepsA1 sample_graph v
a1 = at_each (KeepsA1 sample_graph) 4
    (root, ((edge_at sample_graph 0, inl refl, refl), ((edge_at sample_graph 1, inr (inl refl), refl), ((edge_at sample_graph 2, inr (inr (inl refl)), refl), tt))))

a3_of : (e : Edge) → inter e.key (bound sample_graph e.from) ≡ [] → is_within (source_and_key sample_graph e) (bound sample_graph e.to) ≡ true → KeepsA3 sample_graph e
a3_of e h k = record {
  apart = λ c m n. subst (In c) h (inter_in e.key (bound sample_graph e.from) c m n);
  inside = within_from_test (source_and_key sample_graph e) (bound sample_graph e.to) k;
}

a3 : (n : ℕ) → n < 3 → KeepsA3 sample_graph (edge_at sample_graph n)
a3 = at_each (λ n. KeepsA3 sample_graph (edge_at sample_graph n)) 3
    (a3_of (edge_at sample_graph 0) refl refl, (a3_of (edge_at sample_graph 1) refl refl, (a3_of (edge_at sample_graph 2) refl refl, tt)))

a4 : (n : ℕ) → n < 3 → KeepsA4 sample_graph (edge_at sample_graph n)
a4 = at_each (λ n. KeepsA4 sample_graph (edge_at sample_graph n)) 3
    (subset (0 ∷ []) (0 ∷ []) refl, (subset (0 ∷ 1 ∷ []) (0 ∷ 1 ∷ []) refl, (subset (0 ∷ 1 ∷ 2 ∷ []) (0 ∷ 1 ∷ 2 ∷ []) refl, tt)))

a5 : (n : ℕ) → n < 3 → KeepsA5 sample_graph (edge_at sample_graph n)
a5 = at_each (λ n. KeepsA5 sample_graph (edge_at sample_graph n)) 3 (
  record { no_key = λ e. absurd cc; singleton = λ e. absurd cc },
  (record { no_key = λ e. absurd cc; singleton = λ e. absurd cc }, (record { no_key = λ e. absurd cc; singleton = λ e. weight_follows }, tt)),
)

a6 : (n : ℕ) → n < 3 → KeepsA6 sample_graph n
a6 = at_each (KeepsA6 sample_graph) 3 (
  record { reached = inl refl; lossless = inl (subset [] [] refl) },
  (
    record { reached = inr (inl refl); lossless = inl (subset (0 ∷ []) (0 ∷ []) refl) },
    (record { reached = inr (inr (inl refl)); lossless = inl (subset (0 ∷ 1 ∷ []) (0 ∷ 1 ∷ []) refl) }, tt),
  ),
)

a7 : (c : ℕ) → c < 3 → KeepsA7 sample_graph c
a7 = at_each (KeepsA7 sample_graph) 3 (inl refl, (inr (inl refl), (inr (inr (inl refl)), tt)))

sample_is_adequate : IsAdequate sample_graph
sample_is_adequate = record { a1 = a1; a2 = λ v m circle. no_circle circle.0 circle.1; a3 = a3; a4 = a4; a5 = a5; a6 = a6; a7 = a7 }

-- ---- placement

p2_of : (e : ℕ) → is_within (striping sample_graph e) (source_and_key sample_graph (edge_at sample_graph e)) ≡ true → KeepsP2 sample_graph e
p2_of e h = within_from_test (striping sample_graph e) (source_and_key sample_graph (edge_at sample_graph e)) h

p3 : (f : ℕ) → f < 3 → KeepsP3 sample_graph f
p3 = at_each (KeepsP3 sample_graph) 3 (
  at_each (λ e. (edge_at sample_graph e).to ≡ 0 → class_of sample_graph e ≤ 0) 3 (λ q. omega (arith, q), (λ q. omega (arith, q), (λ q. omega (arith, q), tt))),
  (
    at_each (λ e. (edge_at sample_graph e).to ≡ 1 → class_of sample_graph e ≤ 1) 3 (λ q. omega arith, (λ q. omega arith, (λ q. omega arith, tt))),
    (at_each (λ e. (edge_at sample_graph e).to ≡ 2 → class_of sample_graph e ≤ 1) 3 (λ q. omega arith, (λ q. omega arith, (λ q. omega arith, tt))), tt),
  ),
)

p5_of : (e : ℕ) → is_within (striping sample_graph e) (bound sample_graph (edge_at sample_graph e).from) ≡ true → KeepsP5 sample_graph e
p5_of e h outside = absurd (outside (within_from_test (striping sample_graph e) (bound sample_graph (edge_at sample_graph e).from) h))

sample_is_placed : IsPlaced sample_graph
sample_is_placed = record {
  p1 = at_each (KeepsP1 sample_graph) 3 (refl, (refl, (refl, tt)));
  p2 = at_each (KeepsP2 sample_graph) 3 (p2_of 0 refl, (p2_of 1 refl, (p2_of 2 refl, tt)));
  p3 = p3;
  p4 = at_each (λ c. KeepsP4 (class_at sample_graph c)) 2 (λ e. absurd cc, (λ e. absurd cc, tt));
  p5 = at_each (KeepsP5 sample_graph) 3 (λ outside. refl, (p5_of 1 refl, (p5_of 2 refl, tt)));
  p6 = at_each (KeepsP6 sample_graph) 2 (record { some = omega arith; few = omega arith }, (record { some = omega arith; few = omega arith }, tt));
}

-- ---- operations

outs_of_two : AreOuts (1 ∷ 2 ∷ [])
outs_of_two = record { some = λ e. absurd cc; distinct = (λ m. elim m [ inl e ↦ omega (arith, e) | inr n ↦ absurd n ], (λ m. absurd m, tt)) }

outs_of_one : AreOuts (2 ∷ [])
outs_of_one = record { some = λ e. absurd cc; distinct = (λ m. absurd m, tt) }

same_outs : (xs ys ranges : List ℕ) → Query xs [] ≡ Query ys ranges → xs ≡ ys
same_outs xs ys ranges e = cc

sample_ops_are_kept : (n : ℕ) → n < 4 → KeepsO sample_graph (op_at sample_graph n)
sample_ops_are_kept = at_each (λ n. KeepsO sample_graph (op_at sample_graph n)) 4 (
  record { o1 = λ k e. absurd cc; o2 = λ k. absurd k; o3 = λ outs ranges k. absurd cc },
  (
    record { o1 = λ k e. absurd cc; o2 = λ k. all_follow; o3 = λ outs ranges k. absurd cc },
    (
      record { o1 = λ k e. absurd cc; o2 = λ k. absurd k; o3 = λ outs ranges k. subst AreOuts (same_outs (1 ∷ 2 ∷ []) outs ranges k) outs_of_two },
      (record { o1 = λ k e. absurd cc; o2 = λ k. absurd k; o3 = λ outs ranges k. subst AreOuts (same_outs (2 ∷ []) outs ranges k) outs_of_one }, tt),
    ),
  ),
)

pub sample_is_accepted : IsAccepted sample_graph
sample_is_accepted = record { adequate = sample_is_adequate; placed = sample_is_placed; ops = sample_ops_are_kept }
