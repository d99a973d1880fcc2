-- The example meets the premises of the law of accepted plans, and what the definitions compute at it.
use Rattle.std.specs.Prelude.{◌≡◌, ℕ, ◌<◌, ◌≤◌, true, List, [], ◌∷◌, Some, nat_lt}
use Rattle.rc_plan.proofs.Imports.{list_all, range_with_len, AllByRecursion, nat_cmp, ltb-true, In, IsRising, AreDistinct, list_all_in, each_in, Within, is_within, within_from_test, rising_range, in_range_below, Pairs, project, project_less, project_by, Follows, rising_of, Call, Rows, Inserted, Present, Conflict, Removed, Absent, Class, Edge, Node, Query, Shared, Exclusive, IsSealed, KeepsA1, KeepsA3, KeepsA5, KeepsA6, KeepsA7, IsAdequate, bound, edge_at, source_and_key, IsWalk, IsCircle, all_rows, AreBelow, IsSetBelow, IsDepAmong, IsEdgeAmong, IsPlaceAmong, IsOpAmong, IsInRange, class_at, class_of, op_at, KeepsP1, KeepsP2, KeepsP3, KeepsP4, KeepsP5, KeepsP6, IsPlaced, KeepsO, eval, rows_as_taken, graph, add_plan, drop_plan, successor_plan}
use Rattle.std.proofs.Common.{inl, inr, refl, subst, ◌∙◌, arith, lit<, lit≤}
use Rattle.rc_spec.specs.Stripes.{mix}

-- ---- tuples

abbrev pub edge : ℕ → ℕ → ℕ → Pairs
edge x y z = (0, x) ∷ (1, y) ∷ (2, z) ∷ []

abbrev pub src_dst : ℕ → ℕ → Pairs
src_dst x y = (0, x) ∷ (1, y) ∷ []

abbrev pub some_edges : List Pairs
some_edges = edge 1 2 5 ∷ edge 1 3 7 ∷ edge 4 1 8 ∷ []

-- ---- what the definitions compute

abbrev pub add : Pairs → Call
add t = record { op = 0; args = t; ranges = [] }

abbrev pub drop : ℕ → ℕ → Call
drop x y = record { op = 1; args = src_dst x y; ranges = [] }

abbrev pub successors_of : ℕ → Call
successors_of x = record { op = 2; args = (0, x) ∷ []; ranges = [] }

found : (eval graph successor_plan (successors_of 1) (all_rows graph some_edges)).reply ≡ Some (Rows ((2 ∷ 5 ∷ []) ∷ (3 ∷ 7 ∷ []) ∷ []))
found = refl

-- src 1 falls on stripe 2
named_shared : (eval graph successor_plan (successors_of 1) (all_rows graph some_edges)).named ≡ (2, Shared) ∷ []
unfolding mix
named_shared = refl

named_all : (eval graph add_plan (add (edge 1 9 9)) (all_rows graph some_edges)).named ≡ (0, Exclusive) ∷ (1, Exclusive) ∷ (2, Exclusive) ∷ (3, Exclusive) ∷ []
named_all = refl

inserted : (eval graph add_plan (add (edge 1 9 9)) (all_rows graph some_edges)).reply ≡ Some Inserted
inserted = refl

rows_with_it : (eval graph add_plan (add (edge 1 9 9)) (all_rows graph some_edges)).rows ≡ all_rows graph (edge 1 2 5 ∷ edge 1 3 7 ∷ edge 1 9 9 ∷ edge 4 1 8 ∷ [])
rows_with_it = refl

taken_back : rows_as_taken graph (edge 1 9 9) Inserted (eval graph add_plan (add (edge 1 9 9)) (all_rows graph some_edges)).rows ≡ all_rows graph some_edges
taken_back = refl

-- weight 5 has src 1
refused : (eval graph add_plan (add (edge 4 9 5)) (all_rows graph some_edges)).reply ≡ Some (Conflict 2)
refused = refl

there : (eval graph add_plan (add (edge 1 3 2)) (all_rows graph some_edges)).reply ≡ Some Present
there = refl

removed : (eval graph drop_plan (drop 1 3) (all_rows graph some_edges)).reply ≡ Some (Removed (edge 1 3 7))
removed = refl

-- the row of src 1 stays, with one tuple less
rows_without_it : (eval graph drop_plan (drop 1 3) (all_rows graph some_edges)).rows
    ≡ (0, (0, 1) ∷ [], 1) ∷ (0, (0, 4) ∷ [], 1) ∷ (1, edge 1 2 5, 1) ∷ (1, edge 4 1 8, 1) ∷ []
rows_without_it = refl

absent : (eval graph drop_plan (drop 1 9) (all_rows graph some_edges)).reply ≡ Some Absent
absent = refl

-- ---- facts from tests that compute

pub within_by : (xs ys : List ℕ) → is_within xs ys ≡ true → Within xs ys
within_by xs ys e = within_from_test xs ys e

below_by : (limit : ℕ) (xs : List ℕ) → list_all (λ c. nat_lt c limit) xs ≡ true → AreBelow limit xs
below_by limit xs e c m = ltb-true c limit (list_all_in (λ c. nat_lt c limit) xs e c m)

-- what holds of each number below a limit
pub numbered : (P : ℕ → Type 0) (limit : ℕ) → AllByRecursion P (range_with_len 0 limit) → (n : ℕ) → n < limit → P n
numbered P limit all n l = each_in P (range_with_len 0 limit) all n (in_range_below limit n l)

set_by : (xs : List ℕ) → IsRising nat_cmp xs → list_all (λ c. nat_lt c 3) xs ≡ true → IsSetBelow 3 xs
set_by xs r e = record {
  set = record { rising = r; below = λ c m. let l : c < 3 = below_by 3 xs e c m in omega arith };
  below = below_by 3 xs e;
}

one_rises : (c : ℕ) → IsRising nat_cmp (c ∷ [])
one_rises c = ((λ y z. absurd z), tt)

some_number : (c : ℕ) (xs : List ℕ) → c ∷ xs ≡ [] → ⊥
some_number c xs e = cc

-- ---- the specification is accepted

in_range : IsInRange graph
in_range = record {
  columns = lit≤ tt;
  deps = lit≤ tt;
  nodes = lit≤ tt;
  edges = lit≤ tt;
  classes = lit≤ tt;
  places = lit≤ tt;
  ops = lit≤ tt;
  known_deps = each_in (IsDepAmong 3) graph.deps (
    record { left = set_by (0 ∷ 1 ∷ []) (rising_range 0 2) refl; right = set_by (2 ∷ []) (one_rises 2) refl; has_right = some_number 2 [] },
    (record { left = set_by (2 ∷ []) (one_rises 2) refl; right = set_by (0 ∷ []) (one_rises 0) refl; has_right = some_number 0 [] }, tt),
  );
  known_nodes = each_in (λ (node : Node). IsSetBelow 3 node.cols) graph.nodes (set_by [] tt refl, (set_by (0 ∷ []) (one_rises 0) refl, (set_by (0 ∷ 1 ∷ 2 ∷ []) (rising_range 0 3) refl, tt)));
  known_edges = each_in (IsEdgeAmong 3 3) graph.edges (
    record { from = lit< tt; to = lit< tt; key = set_by (0 ∷ []) (one_rises 0) refl },
    (record { from = lit< tt; to = lit< tt; key = set_by (1 ∷ []) (one_rises 1) refl }, tt),
  );
  known_classes = each_in (λ (class : Class). IsSetBelow 3 class.cols) graph.classes (set_by (0 ∷ []) (one_rises 0) refl, tt);
  known_places = each_in (IsPlaceAmong 2 1) graph.places (record { edge = lit< tt; class = lit< tt }, (record { edge = lit< tt; class = lit< tt }, tt));
  known_ops = each_in (IsOpAmong 3) graph.ops (
    record { pattern = below_by 3 (0 ∷ 1 ∷ []) refl; outs = tt; ranges = λ c z. absurd z },
    (record { pattern = below_by 3 (0 ∷ 1 ∷ []) refl; outs = tt; ranges = λ c z. absurd z }, (record { pattern = below_by 3 (0 ∷ []) refl; outs = below_by 3 (1 ∷ 2 ∷ []) refl; ranges = λ c z. absurd z }, tt)),
  );
}

-- columns determine those among them, and what a dependency says
pub follows_within : (xs ys : List ℕ) → is_within ys xs ≡ true → Follows graph.deps xs ys
follows_within xs ys e columns o d w v r i h t u m n f = project_less ys xs t u (within_by ys xs e) f

determines_all : Follows graph.deps (0 ∷ 1 ∷ []) (0 ∷ 1 ∷ 2 ∷ [])
determines_all columns o d w v r i h t u m n f = project_by (0 ∷ 1 ∷ 2 ∷ []) t u (rising_of columns r o i t m) (rising_of columns r o i u n) (λ c k. go c k)
  where
    go : (c : ℕ) → In c (0 ∷ 1 ∷ 2 ∷ []) → (ys : List ℕ) × In c ys × (project ys t ≡ project ys u)
    go c (inl e) = (0 ∷ 1 ∷ [], inl e, f)
    go c (inr (inl e)) = (0 ∷ 1 ∷ [], inr (inl e), f)
    go c (inr (inr (inl e))) = (2 ∷ [], inl e, h (record { left = 0 ∷ 1 ∷ []; right = 2 ∷ [] }) (inl refl) t u m n f)
    go c (inr (inr (inr z))) = absurd z

each_edge_rises : (e : Edge) → In e graph.edges → e.from < e.to
each_edge_rises = each_in (λ (e : Edge). e.from < e.to) graph.edges (lit< tt, (lit< tt, tt))

walk_rises : (u v : ℕ) (es : List Edge) → IsWalk graph u v es → u ≤ v
walk_rises u v [] w = omega (arith, w)
walk_rises u v (e ∷ es) w =
    let up : e.from < e.to = each_edge_rises e w.0 in
    let rest : e.to ≤ v = walk_rises e.to v es w.2 in
    let here : e.from ≡ u = w.1 in omega arith

no_circle : (es : List Edge) → IsCircle graph es → ⊥
no_circle [] w = w
no_circle (e ∷ es) w =
    let up : e.from < e.to = each_edge_rises e w.0 in
    let rest : e.to ≤ e.from = walk_rises e.to e.from es w.2 in omega arith

into_root : (e : Edge) → In e graph.edges → e.to ≡ 0 → ⊥
into_root e m z = let up : e.from < e.to = each_edge_rises e m in omega arith

adequate : IsAdequate graph
adequate = record {
  a1 = numbered (KeepsA1 graph) 3 (
    record { nothing = refl; no_edge_in = λ q. into_root q.0 q.1 q.2; edge_out = (edge_at graph 0, inl refl, refl) },
    ((edge_at graph 0, inl refl, refl), ((edge_at graph 1, inr (inl refl), refl), tt)),
  );
  a2 = λ v l q. no_circle q.0 q.1;
  a3 = numbered (λ n. KeepsA3 graph (edge_at graph n)) 2 (
    record { apart = λ c m z. z; inside = within_by (0 ∷ []) (0 ∷ []) refl },
    (record { apart = λ c m n. elim m [ inl e ↦ elim n [ inl f ↦ zero_one c f e | inr z ↦ z ] | inr z ↦ z ]; inside = within_by (0 ∷ 1 ∷ []) (0 ∷ 1 ∷ 2 ∷ []) refl }, tt),
  );
  a4 = numbered (λ n. Follows graph.deps (source_and_key graph (edge_at graph n)) (bound graph (edge_at graph n).to)) 2 (follows_within (0 ∷ []) (0 ∷ []) refl, (determines_all, tt));
  a5 = numbered (λ n. KeepsA5 graph (edge_at graph n)) 2 (
    record { no_key = λ e. absurd (some_number 0 [] e); singleton = λ e. cc },
    (record { no_key = λ e. absurd (some_number 1 [] e); singleton = λ e. cc }, tt),
  );
  a6 = numbered (KeepsA6 graph) 2 (
    record { reached = inl refl; lossless = inl (follows_within [] [] refl) },
    (record { reached = inr (inl refl); lossless = inl (follows_within (0 ∷ []) (0 ∷ []) refl) }, tt),
  );
  a7 = numbered (KeepsA7 graph) 3 (inl refl, (inr (inl refl), (inr (inr (inl refl)), tt)));
}
  where
    zero_one : (c : ℕ) → c ≡ 0 → c ≡ 1 → ⊥
    zero_one c e f = omega (arith, e, f)

placed : IsPlaced graph
placed = record {
  p1 = numbered (KeepsP1 graph) 2 (refl, (refl, tt));
  p2 = numbered (KeepsP2 graph) 2 (within_by (0 ∷ []) (0 ∷ []) refl, (within_by (0 ∷ []) (0 ∷ 1 ∷ []) refl, tt));
  p3 = numbered (KeepsP3 graph) 2 (one_class 0, (one_class 1, tt));
  p4 = numbered (λ c. KeepsP4 (class_at graph c)) 1 ((λ e. absurd (some_number 0 [] e)), tt);
  p5 = numbered (KeepsP5 graph) 2 ((λ n. refl), ((λ n. absurd (n (λ c m. m))), tt));
  p6 = numbered (KeepsP6 graph) 1 (record { some = lit< tt; few = lit≤ tt }, tt);
}
  where
    one_class : (f e : ℕ) → e < 2 → (edge_at graph e).to ≡ (edge_at graph f).from → class_of graph e ≤ class_of graph f
    one_class f e l q = numbered (λ e. class_of graph e ≤ class_of graph f) 2 (zero_least (class_of graph f), (zero_least (class_of graph f), tt)) e l
      where
        zero_least : (n : ℕ) → 0 ≤ n
        zero_least n = omega arith

ops_keep : (n : ℕ) → n < 3 → KeepsO graph (op_at graph n)
ops_keep = numbered (λ n. KeepsO graph (op_at graph n)) 3 (
  record { o1 = λ e. some_number 0 (1 ∷ []); o2 = λ z. absurd z; o3 = λ outs ranges e. cc },
  (
    record { o1 = λ e. cc; o2 = λ e. determines_all; o3 = λ outs ranges e. cc },
    (record { o1 = λ e. cc; o2 = λ z. absurd z; o3 = λ outs ranges e. record { some = λ z. some_outs outs ranges e z; distinct = subst AreDistinct (same_outs outs ranges e) ((λ m. two_apart m), ((λ m. m), tt)) } }, tt),
  ),
)
  where
    same_outs : (outs ranges : List ℕ) → Query (1 ∷ 2 ∷ []) [] ≡ Query outs ranges → 1 ∷ 2 ∷ [] ≡ outs
    same_outs outs ranges e = cc

    some_outs : (outs ranges : List ℕ) → Query (1 ∷ 2 ∷ []) [] ≡ Query outs ranges → outs ≡ [] → ⊥
    some_outs outs ranges e z = some_number 1 (2 ∷ []) (same_outs outs ranges e ∙ z)

    two_apart : In {A = ℕ} 1 (2 ∷ []) → ⊥
    two_apart (inl e) = absurd (let k : 1 < 2 = lit< tt in omega (arith, e, k))
    two_apart (inr z) = z

pub sealed : IsSealed graph
sealed = record { in_range = in_range; populated = record { column = lit< tt; node = lit< tt }; accepted = record { adequate = adequate; placed = placed; ops = ops_keep } }
