-- The law of accepted plans, for queries.
use Rattle.std.specs.Prelude.{◌≡◌, ℕ, ◌<◌, nat_le, Bool, true, false, List, [], ◌∷◌, ◌++◌, None, Some, cond, filter, map, length}
use Rattle.rc_plan.specs.Imports.{nat_cmp, In, IsRising, gather, Within, rising_range, Pairs, cols_of, pair_cmp, IsRelation, Satisfies, Rows, Many, Op, Query, Spec, IsAdequate, all_columns, join, EdgeRow, all_rows, tuples_of_edge, rows_on, IsReached, IsInRange, IsPlaced, plain_by, rows_of, range_column, in_ranges, is_asked, StripeLock, Call}
use Rattle.std.proofs.Common.{inl, inr, refl, sym, ap, subst, ◌∙◌}
use Rattle.rc_plan.specs.declared.statement.Statement.{Statement}
use Rattle.rc_plan.specs.declared.statement.Statement.TheVariants.{Lock, Probe, Read, CheckAbsent, CheckFound, CheckDep, Apply, Emit, Commit, Release}
use Rattle.rc_plan.specs.Evaluation.{RunState, named_by, answer, run, rows_as_taken}
use Rattle.rc_plan.specs.MatchLaws.{answer-asked}
use Rattle.rc_plan.specs.PlanRules.{Phase, Progress, after, AreKnown, KeepsFrom}
use Rattle.rc_plan.specs.RunLaws.{EndsAs, run-replied, stripes_grow, lock_keeps, read_keeps, read_same}
use Rattle.rc_plan.specs.StripeLocks.{stripe_lock_cmp, stripes_of}
use Rattle.rc_plan.specs.Search.{searching, IsSearching}

-- a query takes nothing back
taken_answer : (spec : Spec) (args : Pairs) (rows : List (List ℕ)) (b : Bool) (before : List EdgeRow)
    → rows_as_taken spec args (cond b (Rows rows) (Many (length rows))) before ≡ before
taken_answer spec args rows true before = refl
taken_answer spec args rows false before = refl

no_outputs : (outs : List ℕ) → (outs ≡ [] → ⊥) → Within outs [] → ⊥
no_outputs [] n w = n refl
no_outputs (o ∷ outs) n w = w o (inl refl)

abbrev pub query_op : List ℕ → List ℕ → List ℕ → List ℕ → Op
query_op name pattern outs cols = record { name = name; pattern = pattern; kind = Query outs cols }

module _ (spec : Spec) (range : IsInRange spec) (ok : IsAdequate spec) (placed : IsPlaced spec) (r : List Pairs) (i : IsRelation (all_columns spec) r) (h : Satisfies r spec.deps)
    (call : Call) (up : IsRising pair_cmp call.args) (name pattern outs cols : List ℕ) (inside : Within (cols_of call.args) (all_columns spec)) (fits : cols_of call.args ≡ gather nat_cmp pattern)
    (ranged : map range_column call.ranges ≡ cols) (some : outs ≡ [] → ⊥) (stripes : List ℕ) where
  abbrev s : Pairs
  s = call.args

  abbrev ran : List Statement → RunState → RunState
  ran = run spec (query_op name pattern outs cols) call

  emitted : (xs : List ℕ) (bs : List Pairs) → IsReached r s xs bs → Within (gather nat_cmp pattern) xs → Within outs xs → Within cols xs
      → answer spec.most_rows outs (filter (in_ranges call.ranges) bs) ≡ answer spec.most_rows outs (filter (is_asked s call.ranges) r)
  emitted xs bs (inl e) w v z = absurd (no_outputs outs some (subst (Within outs) e.0 v))
  emitted xs bs (inr seen) w v z =
      answer-asked (all_columns spec) (rising_range 0 (length spec.columns)) r i s up inside spec.most_rows call.ranges xs outs bs seen (λ c m. w c (subst (In c) fits m)) v
      (λ c m. z c (subst (In c) ranged m))

  abbrev QueryEnds : RunState → RunState → Type 0
  QueryEnds one two = EndsAs spec s one two r (plain_by spec.most_rows (Query outs cols) pattern spec.deps s call.ranges r) stripes

  pub query_runs : (plan : List Statement) (p : Progress) (bs : List Pairs) (ns : List StripeLock) → IsSearching spec r s p bs ns
      → AreKnown spec plan → KeepsFrom spec (query_op name pattern outs cols) p plan
      → Within (stripes_of (ran plan (searching bs ns (rows_on spec r stripes))).named) stripes
      → QueryEnds (ran plan (searching bs ns (rows_on spec r stripes))) (ran plan (searching bs ns (all_rows spec r)))
  query_runs [] p bs ns f known keeps v = let e : Phase.Searching ≡ Phase.Committed = sym f.phase ∙ keeps.0 in cc
  query_runs (Lock c choice mode ∷ plan) p bs ns f known keeps v =
      query_runs plan (after spec p (Lock c choice mode)) bs (gather stripe_lock_cmp (ns ++ named_by spec c choice mode bs))
      (lock_keeps spec range ok placed r i h s up p bs ns c choice mode f (known (Lock c choice mode) (inl refl)) keeps.0.k3) (λ x m. known x (inr m)) keeps.1 v
  query_runs (Read e mode ∷ plan) p bs ns f known keeps v =
      let l : e < length spec.edges = known (Read e mode) (inl refl) in
      let all : List Pairs = join bs (tuples_of_edge e (all_rows spec r)) in
      let same : join bs (tuples_of_edge e (rows_on spec r stripes)) ≡ all =
      read_same spec range ok placed r i h s up p bs ns stripes e mode f l keeps.0.k3
      (λ c n. v c (stripes_grow spec (query_op name pattern outs cols) call (Read e mode ∷ plan) (searching bs ns (rows_on spec r stripes)) c n)) in
      subst (λ z. QueryEnds (ran plan (searching z ns (rows_on spec r stripes))) (ran plan (searching all ns (all_rows spec r)))) (sym same)
      (query_runs plan (after spec p (Read e mode)) all ns (read_keeps spec range ok placed r i h s up p bs ns e mode f l keeps.0.k5) (λ x m. known x (inr m)) keeps.1
      (subst (λ z. Within (stripes_of (ran plan (searching z ns (rows_on spec r stripes))).named) stripes) same v))
  query_runs (Emit ∷ plan) p bs ns f known keeps v =
      let one = run-replied spec (query_op name pattern outs cols) call plan bs ns None (answer spec.most_rows outs (filter (in_ranges call.ranges) bs)) (rows_on spec r stripes) in
      let two = run-replied spec (query_op name pattern outs cols) call plan bs ns None (answer spec.most_rows outs (filter (in_ranges call.ranges) bs)) (all_rows spec r) in
      record {
        reply = ap (λ (z : RunState). z.reply) one ∙ ap Some (emitted p.visited bs f.reached keeps.0.k6.0 keeps.0.k6.1 keeps.0.k6.2);
        named = ap (λ (z : RunState). z.named) one ∙ sym (ap (λ (z : RunState). z.named) two);
        rows = ap (λ (z : RunState). z.rows) one;
        taken = taken_answer spec s (rows_of outs (filter (is_asked s call.ranges) r)) (nat_le (length (rows_of outs (filter (is_asked s call.ranges) r))) spec.most_rows) (rows_on spec r stripes);
        others = λ stripe g. refl;
      }
  query_runs (Probe cols ∷ plan) p bs ns f known keeps v = absurd keeps.0.k1.1
  query_runs (CheckAbsent ∷ plan) p bs ns f known keeps v = absurd keeps.0.k1.1
  query_runs (CheckFound ∷ plan) p bs ns f known keeps v = absurd keeps.0.k1.1
  query_runs (CheckDep dep ∷ plan) p bs ns f known keeps v = absurd keeps.0.k1.1
  query_runs (Apply ∷ plan) p bs ns f known keeps v = absurd keeps.0.k1.1
  query_runs (Commit ∷ plan) p bs ns f known keeps v = let e : Phase.Searching ≡ Phase.Decided = sym f.phase ∙ keeps.0.k1 in cc
  query_runs (Release c ∷ plan) p bs ns f known keeps v = let e : Phase.Searching ≡ Phase.Committed = sym f.phase ∙ keeps.0.k1.0 in cc
