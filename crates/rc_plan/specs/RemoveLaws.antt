-- The law of accepted plans, for removes.
use Rattle.std.specs.Prelude.{◌≡◌, ℕ, ◌<◌, List, [], ◌∷◌, ◌++◌, None, filter, length, IfSome}
use Rattle.rc_plan.specs.Imports.{nat_cmp, In, IsRising, gather, in_filter, Within, rising_range, in_range_below, Pairs, cols_of, pair_cmp, tuple_cmp, matches, in_project, one_pair, IsRelation, Satisfies, Removed, Absent, Op, Remove, Exclusive, Spec, IsAdequate, all_columns, join, target_within, all_rows, tuples_of_edge, rows_on, IsReached, IsInRange, HasColumnAndNode, class_at, class_of, IsPlaced, plain_by, removed_first, physical_stripe, row_in, without_rows, AllHeld, without_rows-fragments, with_rows-without, fragment_of-remove, target_columns, StripeLock, Call}
use Rattle.std.proofs.Common.{inl, inr, refl, sym, ap, subst, ◌∙◌}
use Rattle.rc_plan.specs.declared.statement.Statement.{Statement}
use Rattle.rc_plan.specs.declared.statement.Statement.TheVariants.{Lock, Probe, Read, CheckAbsent, CheckFound, CheckDep, Apply, Emit, Commit, Release}
use Rattle.rc_plan.specs.declared.statement.Which.{Which}
use Rattle.rc_plan.specs.declared.statement.Which.TheVariants as which
use Rattle.rc_plan.specs.Evaluation.{RunState, stripes_locked, named_by, remove_least, run}
use Rattle.rc_plan.specs.MatchLaws.{all_seen_match}
use Rattle.rc_plan.specs.PlanRules.{Phase, Progress, after, AreKnown, IsLocked, Covers, KeepsFrom}
use Rattle.rc_plan.specs.RunLaws.{cols_of-project, EndsAs, run-replied, stripes_grow, lock_keeps, read_keeps, read_same}
use Rattle.rc_plan.specs.StripeLocks.{stripe_lock_cmp, stripes_of, AreIn}
use Rattle.rc_plan.specs.StripeLocksLaws.{AreIn-more, not_named, striping_in_target}
use Rattle.rc_plan.specs.Search.{searching, IsSearching}

abbrev pub remove_op : List ℕ → List ℕ → Op
remove_op name pattern = record { name = name; pattern = pattern; kind = Remove }

-- with no Probe a lock covers each read of its class
pub covered_without_probe : (spec : Spec) (p : Progress) (c : ℕ) (choice : Which) → p.probe ≡ None → Covers spec p c choice
covered_without_probe spec p c which.Keyed e = subst (λ o. IfSome o (λ cols. Within (class_at spec c).cols cols)) (sym e) tt
covered_without_probe spec p c which.All e = tt

module _ (spec : Spec) (range : IsInRange spec) (populated : HasColumnAndNode spec) (ok : IsAdequate spec) (placed : IsPlaced spec) (r : List Pairs) (i : IsRelation (all_columns spec) r) (h : Satisfies r spec.deps)
    (call : Call) (up : IsRising pair_cmp call.args) (name pattern : List ℕ) (inside : Within (cols_of call.args) (all_columns spec)) (stripes : List ℕ) where
  abbrev s : Pairs
  s = call.args

  abbrev ran : List Statement → RunState → RunState
  ran = run spec (remove_op name pattern) call

  -- where all columns are visited, the bindings are the matching tuples
  bindings_match : (xs : List ℕ) (bs : List Pairs) → Within (all_columns spec) xs → IsRising tuple_cmp bs → IsReached r s xs bs → bs ≡ filter (matches s) r
  bindings_match xs bs w b (inl e) = absurd (subst (In 0) e.0 (w 0 (in_range_below (length spec.columns) 0 populated.column)))
  bindings_match xs bs w b (inr seen) = all_seen_match (all_columns spec) (rising_range 0 (length spec.columns)) r i s up inside xs bs w b seen

  -- all rows of a tuple found fall on named stripes
  found_is_named : (p : Progress) (bs : List Pairs) (ns : List StripeLock) → IsSearching spec r s p bs ns → p.probe ≡ None
      → ((e : ℕ) → e < length spec.edges → IsLocked p (class_of spec e))
      → (t : Pairs) → In t bs → In t r → AllHeld spec (stripes_of ns) t
  found_is_named p bs ns f none k4 t m n e l =
      let q : (choice : Which) × In (class_of spec e, choice) p.locked = k4 e l in
      f.guards (class_of spec e, q.0) q.1 (covered_without_probe spec p (class_of spec e) q.0 none) t (row_in spec t e) m
      (λ c z. cols_of-project (target_columns spec e) t c (striping_in_target spec ok placed e l c z)
      (subst (In c) (sym (i.each t n).over) (target_within spec range e l c (striping_in_target spec ok placed e l c z))))
      (λ x y b d g. one_pair t (subst (IsRising nat_cmp) (sym (i.each t n).over) (rising_range 0 (length spec.columns))) x y b (in_project (target_columns spec e) y t d).0 g)

  -- the end of a remove, at the tuples that match
  remove_ends : (plan : List Statement) (bs : List Pairs) (ns : List StripeLock) (ts : List Pairs)
      → ((t : Pairs) → In t ts → In t r × AllHeld spec (stripes_of ns) t) → AreIn Exclusive ns → Within (stripes_of ns) stripes
      → EndsAs spec s (ran plan (remove_least spec ts (searching bs ns (rows_on spec r stripes)))) (ran plan (remove_least spec ts (searching bs ns (all_rows spec r)))) r (removed_first ts r) stripes
  remove_ends plan bs ns [] f x v =
      let one = run-replied spec (remove_op name pattern) call plan bs ns None Absent (rows_on spec r stripes) in
      let two = run-replied spec (remove_op name pattern) call plan bs ns None Absent (all_rows spec r) in
      record {
        reply = ap (λ (z : RunState). z.reply) one;
        named = ap (λ (z : RunState). z.named) one ∙ sym (ap (λ (z : RunState). z.named) two);
        rows = ap (λ (z : RunState). z.rows) one;
        taken = refl;
        others = λ stripe g. refl;
      }
  remove_ends plan bs ns (t ∷ ts) f x v =
      let one = run-replied spec (remove_op name pattern) call plan bs ns None (Removed t) (without_rows spec t (rows_on spec r stripes)) in
      let two = run-replied spec (remove_op name pattern) call plan bs ns None (Removed t) (without_rows spec t (all_rows spec r)) in
      let m : In t r = (f t (inl refl)).0 in
      let on : AllHeld spec (stripes_of ns) t = (f t (inl refl)).1 in
      let held : AllHeld spec stripes t = λ e l. v (physical_stripe spec (class_of spec e) (row_in spec t e)) (on e l) in
      record {
        reply = ap (λ (z : RunState). z.reply) one;
        named = ap (λ (z : RunState). z.named) one ∙ sym (ap (λ (z : RunState). z.named) two);
        rows = ap (λ (z : RunState). z.rows) one ∙ without_rows-fragments spec r stripes t i.rising m held;
        taken = with_rows-without spec r stripes t i.rising m held;
        others = λ stripe g. fragment_of-remove spec r (stripes_of ns) t i.rising m on stripe
            (not_named Exclusive ns stripe x (λ n. g (subst (λ z. In (stripe, Exclusive) z) (sym (ap (λ (z : RunState). z.named) one)) n)));
      }

  abbrev RemoveEnds : RunState → RunState → Type 0
  RemoveEnds one two = EndsAs spec s one two r (plain_by spec.most_rows Remove pattern spec.deps s call.ranges r) stripes

  pub remove_runs : (plan : List Statement) (p : Progress) (bs : List Pairs) (ns : List StripeLock) → IsSearching spec r s p bs ns → p.probe ≡ None
      → AreIn Exclusive ns
      → AreKnown spec plan → KeepsFrom spec (remove_op name pattern) p plan
      → Within (stripes_of (ran plan (searching bs ns (rows_on spec r stripes))).named) stripes
      → RemoveEnds (ran plan (searching bs ns (rows_on spec r stripes))) (ran plan (searching bs ns (all_rows spec r)))
  remove_runs [] p bs ns f none x known keeps v = let e : Phase.Searching ≡ Phase.Committed = sym f.phase ∙ keeps.0 in cc
  remove_runs (Lock c choice mode ∷ plan) p bs ns f none x known keeps v =
      remove_runs plan (after spec p (Lock c choice mode)) bs (gather stripe_lock_cmp (ns ++ named_by spec c choice mode bs))
      (lock_keeps spec range ok placed r i h s up p bs ns c choice mode f (known (Lock c choice mode) (inl refl)) keeps.0.k3) none
      (subst (λ m. AreIn Exclusive (gather stripe_lock_cmp (ns ++ named_by spec c choice m bs))) (sym keeps.0.k1.2) (AreIn-more Exclusive ns (stripes_locked spec c choice bs) x))
      (λ y m. known y (inr m)) keeps.1 v
  remove_runs (Read e mode ∷ plan) p bs ns f none x known keeps v =
      let l : e < length spec.edges = known (Read e mode) (inl refl) in
      let all : List Pairs = join bs (tuples_of_edge e (all_rows spec r)) in
      let same : join bs (tuples_of_edge e (rows_on spec r stripes)) ≡ all =
      read_same spec range ok placed r i h s up p bs ns stripes e mode f l keeps.0.k3
      (λ c n. v c (stripes_grow spec (remove_op name pattern) call (Read e mode ∷ plan) (searching bs ns (rows_on spec r stripes)) c n)) in
      subst (λ z. RemoveEnds (ran plan (searching z ns (rows_on spec r stripes))) (ran plan (searching all ns (all_rows spec r)))) (sym same)
      (remove_runs plan (after spec p (Read e mode)) all ns (read_keeps spec range ok placed r i h s up p bs ns e mode f l keeps.0.k5) none x (λ y m. known y (inr m)) keeps.1
      (subst (λ z. Within (stripes_of (ran plan (searching z ns (rows_on spec r stripes))).named) stripes) same v))
  remove_runs (Apply ∷ plan) p bs ns f none x known keeps v =
      let are : bs ≡ filter (matches s) r = bindings_match p.visited bs keeps.0.k6 f.rising f.reached in
      subst (λ z. EndsAs spec s (ran plan (remove_least spec bs (searching bs ns (rows_on spec r stripes)))) (ran plan (remove_least spec bs (searching bs ns (all_rows spec r)))) r (removed_first z r) stripes) are
      (remove_ends plan bs ns bs (λ t m.
      let n : In t r = (in_filter (matches s) t r (subst (In t) are m)).0 in
      (n, found_is_named p bs ns f none keeps.0.k4.0 t m n)) x
      (λ c q. v c (stripes_grow spec (remove_op name pattern) call (Apply ∷ plan) (searching bs ns (rows_on spec r stripes)) c q)))
  remove_runs (Emit ∷ plan) p bs ns f none x known keeps v = absurd keeps.0.k1.1
  remove_runs (Probe cols ∷ plan) p bs ns f none x known keeps v = absurd keeps.0.k1.1
  remove_runs (CheckAbsent ∷ plan) p bs ns f none x known keeps v = absurd keeps.0.k1.1
  remove_runs (CheckFound ∷ plan) p bs ns f none x known keeps v = absurd keeps.0.k1.1
  remove_runs (CheckDep dep ∷ plan) p bs ns f none x known keeps v = absurd keeps.0.k1.1
  remove_runs (Commit ∷ plan) p bs ns f none x known keeps v = let e : Phase.Searching ≡ Phase.Decided = sym f.phase ∙ keeps.0.k1 in cc
  remove_runs (Release c ∷ plan) p bs ns f none x known keeps v = let e : Phase.Searching ≡ Phase.Committed = sym f.phase ∙ keeps.0.k1.0 in cc
