-- The law of accepted plans, for updates.
use Rattle.std.specs.Prelude.{◌≡◌, ℕ, ◌-◌, ◌<◌, ◌≤◌, ◌&&◌, Bool, true, false, List, [], ◌∷◌, ◌++◌, Option, None, Some, cond, filter, not, length}
use Rattle.rc_plan.specs.Imports.{nat_cmp, In, IsRising, put, gather, same_rising, in_gather, gather_in, rising_filter, in_filter, filter_in, get_or_in, nat_order, Within, Pairs, cols_of, project, pair_cmp, tuple_cmp, tuple_eq, agree_on, in_project, project-project, project_less, one_pair, tuple_order, same_from_test, test_from_same, project_all, IsRelation, Satisfies, Follows, rising_of, in_list_any, list_any_in, agree_from_test, test_from_agree, satisfies_fewer, Call, Reply, Updated, Conflict, Absent, Op, Update, Mode, Exclusive, Spec, IsAdequate, all_columns, join, holds_deps, row_in, with_rows, without_rows, AllHeld, with_rows-fragments, without_rows-fragments, with_rows-without, without_rows-with, fragment_of-insert, fragment_of-remove, target_columns, EdgeRow, all_rows, tuples_of_edge, rows_on, fragment_of, IsSeen, IsInRange, class_at, class_of, IsPlaced, Outcome, plain_by, without, update-absent, update-found, physical_stripe, StripeLock}
use Rattle.std.proofs.Common.{inl, inr, refl, sym, ap, subst, ◌∙◌, arith}
use Rattle.std.proofs.lemmas.Bool.{false≢true, true≢false, cases_Bool, not_from_false, not-true, and_from, and_parts}
use Rattle.rc_plan.specs.declared.statement.ReadMode.{ReadMode}
use Rattle.rc_plan.specs.declared.statement.Statement.{Statement}
use Rattle.rc_plan.specs.declared.statement.Statement.TheVariants.{Lock, Probe, Read, CheckAbsent, CheckFound, CheckDep, Apply, Emit, Commit, Release}
use Rattle.rc_plan.specs.declared.statement.Which.{Which}
use Rattle.rc_plan.specs.declared.statement.Which.TheVariants as which
use Rattle.rc_plan.specs.ConflictLaws.{within_or_not, IsUnbroken, no_conflict, conflict_with, unbroken_within}
use Rattle.rc_plan.specs.Evaluation.{RunState, dep_at, some_differs, stripes_locked, named_by, keep_least, replace, run, rows_as_taken}
use Rattle.rc_plan.specs.NamedStripes.{HasNamed}
use Rattle.rc_plan.specs.PlanRules.{Phase, Progress, after, AreKnown, IsLocked, CoversOld, KeepsAll, KeepsFrom}
use Rattle.rc_plan.specs.ProbeLaws.{checked_before, more_named, tuple_named, probe_searching, IsProbing, columns_rise, t_rises, found_one, one_found, up_at, seen_at, tuple_is_named}
use Rattle.rc_plan.specs.RunLaws.{cols_of-project, EndsAs, run-replied, stripes_grow, lock_keeps, read_keeps, read_same}
use Rattle.rc_plan.specs.Search.{updating, IsSearching}
use Rattle.rc_plan.specs.StripeLocks.{stripe_lock_cmp, stripes_of, AreIn}
use Rattle.rc_plan.specs.StripeLocksLaws.{AreIn-more, not_named, physical_stripe-agreeing, striping_in_target}

abbrev pub update_op : List ℕ → List ℕ → Op
update_op name pattern = record { name = name; pattern = pattern; kind = Update }

-- the tuple is the first of the relation that agrees with t on the pattern
abbrev pub IsOld : List Pairs → Pairs → List ℕ → Pairs → Type 0
IsOld r t pattern o = (others : List Pairs) × (filter (agree_on pattern t) r ≡ o ∷ others)

-- where a run of an update to t stands
pub record IsUpdating (spec : Spec) (r : List Pairs) (t : Pairs) (pattern : List ℕ) (p : Progress) (s : Pairs) (bs : List Pairs) (ns : List StripeLock) (old : Option Pairs) : Type 0 where
  pub search : IsSearching spec r s p bs ns
  pub probing : IsProbing t p s bs
  pub locks : (x : ℕ × Which) → In x p.locked → HasNamed spec t (stripes_of ns) x.0 x.1
  pub exclusive : AreIn Exclusive ns
  pub found : p.sought ≡ true → (o : Pairs) × (old ≡ Some o) × IsOld r t pattern o
  pub checked : (dep : ℕ) → In dep p.checked → (o : Pairs) → IsOld r t pattern o → IsUnbroken (without o r) t (dep_at spec dep)

module _ (spec : Spec) (range : IsInRange spec) (ok : IsAdequate spec) (placed : IsPlaced spec) (r : List Pairs) (i : IsRelation (all_columns spec) r) (h : Satisfies r spec.deps)
    (call : Call) (over : cols_of call.args ≡ all_columns spec) (name pattern : List ℕ) (known_pattern : Within (gather nat_cmp pattern) (all_columns spec)) (some_column : all_columns spec ≡ [] → ⊥)
    (key : Follows spec.deps (gather nat_cmp pattern) (all_columns spec)) (stripes : List ℕ) where
  abbrev t : Pairs
  t = call.args

  abbrev ran : List Statement → RunState → RunState
  ran = run spec (update_op name pattern) call

  to_pattern : (u v : Pairs) → project (gather nat_cmp pattern) u ≡ project (gather nat_cmp pattern) v → project pattern u ≡ project pattern v
  to_pattern u v e = project_less pattern (gather nat_cmp pattern) u v (λ c m. gather_in nat_cmp nat_order c pattern m) e

  from_pattern : (u v : Pairs) → project pattern u ≡ project pattern v → project (gather nat_cmp pattern) u ≡ project (gather nat_cmp pattern) v
  from_pattern u v e = project_less (gather nat_cmp pattern) pattern u v (λ c m. in_gather nat_cmp nat_order c pattern m) e

  -- ---- the old tuple

  whole : (u : Pairs) → In u r → project (all_columns spec) u ≡ u
  whole u m = project_all (all_columns spec) u (rising_of (all_columns spec) r (columns_rise spec r i t over) i u m) (λ c n. subst (In c) (i.each u m).over n)

  -- the pattern is a key
  one_by_key : (u v : Pairs) → In u r → In v r → project pattern u ≡ project pattern v → u ≡ v
  one_by_key u v m n e =
      sym (whole u m) ∙ key (all_columns spec) (columns_rise spec r i t over) (holds_deps spec range) known_pattern (λ c k. k) r i h u v m n (from_pattern u v e) ∙ whole v n

  pub old_in : (o : Pairs) → IsOld r t pattern o → In o r × (project pattern t ≡ project pattern o)
  old_in o is =
      let q : In o r × (agree_on pattern t o ≡ true) = in_filter (agree_on pattern t) o r (subst (In o) (sym is.1) (inl refl)) in
      (q.0, agree_from_test pattern t o q.1)

  -- no other tuple has its pattern values
  others_differ : (o : Pairs) → IsOld r t pattern o → (u : Pairs) → In u (without o r) → project pattern t ≡ project pattern u → ⊥
  others_differ o is u m e =
      let q : In u r × (not (tuple_eq u o) ≡ true) = in_filter (λ x. not (tuple_eq x o)) u r m in
      let k : In o r × (project pattern t ≡ project pattern o) = old_in o is in
      false≢true (sym (not-true (tuple_eq u o) q.1) ∙ test_from_same u o (one_by_key u o q.0 k.0 (sym e ∙ k.1)))

  -- a tuple that hasn't them is another
  differing_is_other : (o : Pairs) → IsOld r t pattern o → (u : Pairs) → In u r → (project pattern t ≡ project pattern u → ⊥) → In u (without o r)
  differing_is_other o is u m f = filter_in (λ x. not (tuple_eq x o)) u r m (not_from_false (tuple_eq u o) (go (tuple_eq u o) refl))
    where
      go : (b : Bool) → tuple_eq u o ≡ b → b ≡ false
      go true e = absurd (f ((old_in o is).1 ∙ ap (project pattern) (sym (same_from_test u o e))))
      go false e = refl

  rest_satisfies : (o : Pairs) → Satisfies (without o r) spec.deps
  rest_satisfies o = satisfies_fewer r (without o r) spec.deps (λ u m. (in_filter (λ x. not (tuple_eq x o)) u r m).0) h

  rest_rises : (o : Pairs) → IsRising tuple_cmp (without o r)
  rest_rises o = rising_filter tuple_cmp (λ x. not (tuple_eq x o)) r i.rising

  -- ---- what the checks find

  -- where all columns are visited behind a Probe of the pattern, the bindings are the tuples that agree with t on it
  pub bindings_agree : (visited : List ℕ) (bs : List Pairs) → IsSeen r (project (gather nat_cmp pattern) t) visited bs → Within (all_columns spec) visited → IsRising tuple_cmp bs
      → bs ≡ filter (agree_on pattern t) r
  bindings_agree visited bs seen w rises =
      same_rising tuple_cmp tuple_order bs (filter (agree_on pattern t) r) rises (rising_filter tuple_cmp (agree_on pattern t) r i.rising)
      (λ b m. let u : (u : Pairs) × In u r × (project (gather nat_cmp pattern) t ≡ project (gather nat_cmp pattern) u) × (b ≡ project visited u) =
      found_one spec r i t over (gather nat_cmp pattern) visited bs seen (λ c n. w c (known_pattern c n)) b m in
      subst (λ z. In z (filter (agree_on pattern t) r)) (sym (u.3 ∙ all_visited u.0 u.1))
      (filter_in (agree_on pattern t) u.0 r u.1 (test_from_agree pattern t u.0 (to_pattern t u.0 u.2))))
      (λ u m. let q : In u r × (agree_on pattern t u ≡ true) = in_filter (agree_on pattern t) u r m in
      subst (λ z. In z bs) (all_visited u q.0)
      (one_found spec r i t over (gather nat_cmp pattern) visited bs seen (λ c n. w c (known_pattern c n)) u q.0 (from_pattern t u (agree_from_test pattern t u q.1))))
    where
      all_visited : (u : Pairs) → In u r → project visited u ≡ u
      all_visited u m = project_all visited u (rising_of (all_columns spec) r (columns_rise spec r i t over) i u m) (λ c n. w c (subst (In c) (i.each u m).over n))

  abbrev conflicts : ℕ → Pairs → Bool
  conflicts dep b = not (agree_on pattern b t) && not (agree_on (dep_at spec dep).right b t)

  in_pattern : (visited : List ℕ) → Within (gather nat_cmp pattern) visited → Within pattern visited
  in_pattern visited w c m = w c (gather_in nat_cmp nat_order c pattern m)

  differs_so : (xs visited : List ℕ) (bs : List Pairs) (dep : ℕ) → IsSeen r (project xs t) visited bs → Within xs visited
      → Within (dep_at spec dep).right visited → Within (gather nat_cmp pattern) visited → some_differs spec (update_op name pattern) dep t bs ≡ true
      → (u : Pairs) × In u r × (project xs t ≡ project xs u) × (agree_on (dep_at spec dep).right u t ≡ false) × (project pattern t ≡ project pattern u → ⊥)
  differs_so xs visited bs dep seen w v k e =
      let ys : List ℕ = (dep_at spec dep).right in
      let b : (b : Pairs) × In b bs × (conflicts dep b ≡ true) = in_list_any (conflicts dep) bs e in
      let both : (not (agree_on pattern b.0 t) ≡ true) × (not (agree_on ys b.0 t) ≡ true) = and_parts (not (agree_on pattern b.0 t)) (not (agree_on ys b.0 t)) b.2 in
      let u : (u : Pairs) × In u r × (project xs t ≡ project xs u) × (b.0 ≡ project visited u) = found_one spec r i t over xs visited bs seen w b.0 b.1 in
      let c : project ys b.0 ≡ project ys u.0 = ap (project ys) u.3 ∙ project-project ys visited u.0 v in
      let d : project pattern b.0 ≡ project pattern u.0 = ap (project pattern) u.3 ∙ project-project pattern visited u.0 (in_pattern visited k) in (
        u.0,
        u.1,
        u.2,
        ap (λ z. tuple_eq z (project ys t)) (sym c) ∙ not-true (agree_on ys b.0 t) both.1,
        λ f. false≢true (sym (not-true (agree_on pattern b.0 t) both.0) ∙ test_from_agree pattern b.0 t (d ∙ sym f)),
      )

  differs_not : (xs visited : List ℕ) (bs : List Pairs) (dep : ℕ) → IsSeen r (project xs t) visited bs → Within xs visited
      → Within (dep_at spec dep).right visited → Within (gather nat_cmp pattern) visited → some_differs spec (update_op name pattern) dep t bs ≡ false
      → (u : Pairs) → In u r → (project pattern t ≡ project pattern u → ⊥) → project xs t ≡ project xs u → project (dep_at spec dep).right t ≡ project (dep_at spec dep).right u
  differs_not xs visited bs dep seen w v k e u m f g =
      let ys : List ℕ = (dep_at spec dep).right in
      let n : In (project visited u) bs = one_found spec r i t over xs visited bs seen w u m g in
      elim (cases_Bool (agree_on ys (project visited u) t)) [
        | inl q ↦ sym (agree_from_test ys (project visited u) t q) ∙ project-project ys visited u v
        | inr q ↦ absurd (true≢false (sym (list_any_in (conflicts dep) bs (project visited u) n
            (and_from (not (agree_on pattern (project visited u) t)) (not (agree_on ys (project visited u) t)) (not_from_false (agree_on pattern (project visited u) t) (apart (agree_on pattern (project visited u) t) refl)) (not_from_false (agree_on ys (project visited u) t) q))) ∙ e))
      ]
    where
      apart : (b : Bool) → agree_on pattern (project visited u) t ≡ b → b ≡ false
      apart true q = absurd (f (sym (agree_from_test pattern (project visited u) t q) ∙ project-project pattern visited u (in_pattern visited k)))
      apart false q = refl

  -- ---- the end

  abbrev UpdateEnds : RunState → RunState → Type 0
  UpdateEnds one two = EndsAs spec t one two r (plain_by spec.most_rows Update pattern spec.deps t call.ranges r) stripes

  update_ends : (plan : List Statement) (bs : List Pairs) (ns : List StripeLock) (old : Option Pairs) (reply : Reply) (new : List Pairs) (rows all : List EdgeRow) → AreIn Exclusive ns
      → plain_by spec.most_rows Update pattern spec.deps t call.ranges r ≡ record { reply = reply; relation = new } → rows ≡ rows_on spec new stripes
      → rows_as_taken spec t reply (rows_on spec new stripes) ≡ rows_on spec r stripes
      → ((stripe : ℕ) → (In stripe (stripes_of ns) → ⊥) → fragment_of spec new stripe ≡ fragment_of spec r stripe)
      → UpdateEnds (ran plan (record { bindings = bs; named = ns; old = old; reply = Some reply; rows = rows })) (ran plan (record { bindings = bs; named = ns; old = old; reply = Some reply; rows = all }))
  update_ends plan bs ns old reply new rows all x e f back g =
      let one = run-replied spec (update_op name pattern) call plan bs ns old reply rows in
      let two = run-replied spec (update_op name pattern) call plan bs ns old reply all in
      subst (λ (o : Outcome). EndsAs spec t (ran plan (record { bindings = bs; named = ns; old = old; reply = Some reply; rows = rows })) (ran plan (record { bindings = bs; named = ns; old = old; reply = Some reply; rows = all })) r o stripes) (sym e)
      (record {
        reply = ap (λ (z : RunState). z.reply) one;
        named = ap (λ (z : RunState). z.named) one ∙ sym (ap (λ (z : RunState). z.named) two);
        rows = ap (λ (z : RunState). z.rows) one ∙ f;
        taken = back;
        others = λ stripe m. g stripe (not_named Exclusive ns stripe x (λ n. m (subst (λ z. In (stripe, Exclusive) z) (sym (ap (λ (z : RunState). z.named) one)) n)));
      })

  -- ---- the steps

  lock_updating : (p : Progress) (s : Pairs) (bs : List Pairs) (ns : List StripeLock) (old : Option Pairs) (c : ℕ) (choice : Which) (mode : Mode)
      → IsUpdating spec r t pattern p s bs ns old → IsRising pair_cmp s → c < length spec.classes
      → KeepsAll spec (update_op name pattern) p (Lock c choice mode)
      → IsUpdating spec r t pattern (after spec p (Lock c choice mode)) s bs (gather stripe_lock_cmp (ns ++ named_by spec c choice mode bs)) old
  lock_updating p s bs ns old c choice mode f s_up l keeps = record {
    search = lock_keeps spec range ok placed r i h s s_up p bs ns c choice mode f.search l keeps.k3;
    probing = f.probing;
    locks = λ x m. elim m [
      | inl e ↦ subst (λ (z : ℕ × Which). HasNamed spec t (stripes_of (gather stripe_lock_cmp (ns ++ named_by spec c choice mode bs))) z.0 z.1) (sym e) (now choice f.probing)
      | inr n ↦ more_named spec t ns (named_by spec c choice mode bs) x.0 x.1 (f.locks x n)
    ];
    exclusive = subst (λ m. AreIn Exclusive (gather stripe_lock_cmp (ns ++ named_by spec c choice m bs))) (sym keeps.k1.2) (AreIn-more Exclusive ns (stripes_locked spec c choice bs) f.exclusive);
    found = f.found;
    checked = f.checked;
  }
    where
      now : (choice : Which) → IsProbing t p s bs → HasNamed spec t (stripes_of (gather stripe_lock_cmp (ns ++ named_by spec c choice mode bs))) c choice
      now choice (inl e) = tuple_named spec placed t bs ns mode c l choice e.2
      now choice (inr e) = absurd (let g : None ≡ Some e.0 = sym keeps.k1.1 ∙ e.1 in cc)

  probe_updating : (p : Progress) (s : Pairs) (bs : List Pairs) (ns : List StripeLock) (old : Option Pairs) (xs : List ℕ) → IsUpdating spec r t pattern p s bs ns old
      → Within xs (all_columns spec)
      → IsUpdating spec r t pattern (after spec p (Probe xs)) (project xs t) (project xs t ∷ []) ns old
  probe_updating p s bs ns old xs f known = record {
    search = probe_searching spec r t (t_rises spec r i t over) over p ns xs f.search.phase known f.locks;
    probing = inr (xs, refl, refl);
    locks = f.locks;
    exclusive = f.exclusive;
    found = f.found;
    checked = f.checked;
  }

  read_updating : (p : Progress) (s : Pairs) (bs : List Pairs) (ns : List StripeLock) (old : Option Pairs) (e : ℕ) (mode : ReadMode)
      → IsUpdating spec r t pattern p s bs ns old → IsRising pair_cmp s → e < length spec.edges
      → KeepsAll spec (update_op name pattern) p (Read e mode)
      → IsUpdating spec r t pattern (after spec p (Read e mode)) s (join bs (tuples_of_edge e (all_rows spec r))) ns old
  read_updating p s bs ns old e mode f s_up l keeps = record {
    search = read_keeps spec range ok placed r i h s s_up p bs ns e mode f.search l keeps.k5;
    probing = still f.probing;
    locks = f.locks;
    exclusive = f.exclusive;
    found = f.found;
    checked = f.checked;
  }
    where
      still : IsProbing t p s bs → IsProbing t p s (join bs (tuples_of_edge e (all_rows spec r)))
      still (inl g) = absurd (let q : None ≡ Some keeps.k1.1.0 = sym g.0 ∙ keeps.k1.1.1 in cc)
      still (inr g) = inr g

  -- all rows of the old tuple fall on named stripes: where a class is locked keyed its columns are of the pattern, on which the two tuples agree
  pub old_is_named : (p : Progress) (ns : List StripeLock) → ((x : ℕ × Which) → In x p.locked → HasNamed spec t (stripes_of ns) x.0 x.1)
      → ((e : ℕ) → e < length spec.edges → IsLocked p (class_of spec e)) → CoversOld spec (update_op name pattern) Update p
      → (o : Pairs) → In o r → project pattern t ≡ project pattern o → AllHeld spec (stripes_of ns) o
  old_is_named p ns locks k4 covers o m same e l = let q : IsLocked p (class_of spec e) = k4 e l in go q.0 q.1 (locks (class_of spec e, q.0) q.1)
    where
      c : ℕ
      c = class_of spec e

      xs : List ℕ
      xs = gather nat_cmp pattern

      o_rises : IsRising nat_cmp (cols_of o)
      o_rises = subst (IsRising nat_cmp) (sym (i.each o m).over) (columns_rise spec r i t over)

      go : (choice : Which) → In (c, choice) p.locked → HasNamed spec t (stripes_of ns) c choice → In (physical_stripe spec c (row_in spec o e)) (stripes_of ns)
      go which.Keyed k n =
          let in_pattern : Within (class_at spec c).cols xs = covers e l k in
          let in_t : Within (class_at spec c).cols (cols_of t) = λ d a. subst (In d) (sym over) (known_pattern d (in_pattern d a)) in
          let in_o : Within (class_at spec c).cols (cols_of o) = λ d a. subst (In d) (sym (i.each o m).over) (known_pattern d (in_pattern d a)) in
          let in_pt : Within (class_at spec c).cols (cols_of (project xs t)) = λ d a. cols_of-project xs t d (in_pattern d a) (in_t d a) in
          let in_po : Within (class_at spec c).cols (cols_of (project xs o)) = λ d a. cols_of-project xs o d (in_pattern d a) (in_o d a) in
          let in_row : Within (class_at spec c).cols (cols_of (row_in spec o e)) = λ d a. cols_of-project (target_columns spec e) o d (striping_in_target spec ok placed e l d a) (in_o d a) in
          let first : physical_stripe spec c t ≡ physical_stripe spec c (project xs t) =
          physical_stripe-agreeing spec c t (project xs t) in_t in_pt (λ x y z w g. one_pair t (t_rises spec r i t over) x y z (in_project xs y t w).0 g) in
          let second : physical_stripe spec c (project xs o) ≡ physical_stripe spec c (row_in spec o e) =
          physical_stripe-agreeing spec c (project xs o) (row_in spec o e) in_po in_row
          (λ x y z w g. one_pair o o_rises x y (in_project xs x o z).0 (in_project (target_columns spec e) y o w).0 g) in
          subst (λ z. In z (stripes_of ns)) (first ∙ ap (physical_stripe spec c) (from_pattern t o same) ∙ second) n
      go which.All k n = n (row_in spec o e)

  -- ---- whole runs

  pub update_runs : (plan : List Statement) (p : Progress) (s : Pairs) (bs : List Pairs) (ns : List StripeLock) (old : Option Pairs)
      → IsUpdating spec r t pattern p s bs ns old → AreKnown spec plan → KeepsFrom spec (update_op name pattern) p plan
      → Within (stripes_of (ran plan (updating old bs ns (rows_on spec r stripes))).named) stripes
      → UpdateEnds (ran plan (updating old bs ns (rows_on spec r stripes))) (ran plan (updating old bs ns (all_rows spec r)))
  update_runs [] p s bs ns old f known keeps v = absurd (let e : Phase.Searching ≡ Phase.Committed = sym f.search.phase ∙ keeps.0 in cc)
  update_runs (Lock c choice mode ∷ plan) p s bs ns old f known keeps v =
      update_runs plan (after spec p (Lock c choice mode)) s bs (gather stripe_lock_cmp (ns ++ named_by spec c choice mode bs)) old
      (lock_updating p s bs ns old c choice mode f (up_at spec r i t over p s bs f.probing) (known (Lock c choice mode) (inl refl)) keeps.0) (λ x m. known x (inr m)) keeps.1 v
  update_runs (Probe cols ∷ plan) p s bs ns old f known keeps v =
      update_runs plan (after spec p (Probe cols)) (project cols t) (project cols t ∷ []) ns old (probe_updating p s bs ns old cols f (known (Probe cols) (inl refl))) (λ x m. known x (inr m)) keeps.1 v
  update_runs (Read e mode ∷ plan) p s bs ns old f known keeps v =
      let l : e < length spec.edges = known (Read e mode) (inl refl) in
      let all : List Pairs = join bs (tuples_of_edge e (all_rows spec r)) in
      let same : join bs (tuples_of_edge e (rows_on spec r stripes)) ≡ all =
      read_same spec range ok placed r i h s (up_at spec r i t over p s bs f.probing) p bs ns stripes e mode f.search l keeps.0.k3
      (λ c n. v c (stripes_grow spec (update_op name pattern) call (Read e mode ∷ plan) (updating old bs ns (rows_on spec r stripes)) c n)) in
      subst (λ z. UpdateEnds (ran plan (updating old z ns (rows_on spec r stripes))) (ran plan (updating old all ns (all_rows spec r)))) (sym same)
      (update_runs plan (after spec p (Read e mode)) s all ns old (read_updating p s bs ns old e mode f (up_at spec r i t over p s bs f.probing) l keeps.0) (λ x m. known x (inr m)) keeps.1
      (subst (λ z. Within (stripes_of (ran plan (updating old z ns (rows_on spec r stripes))).named) stripes) same v))
  update_runs (CheckAbsent ∷ plan) p s bs ns old f known keeps v = absurd keeps.0.k1.1
  update_runs (CheckFound ∷ plan) p s bs ns old f known keeps v =
      go bs are (λ b others e. update_runs plan (after spec p CheckFound) s bs ns (Some b) (still b others e) (λ x m. known x (inr m)) keeps.1) v
    where
      are : bs ≡ filter (agree_on pattern t) r
      are = bindings_agree p.visited bs
          (seen_at spec r i t over p s bs ns f.search f.probing (gather nat_cmp pattern) keeps.0.k6.0 (all_columns spec) some_column keeps.0.k6.1) keeps.0.k6.1 f.search.rising

      still : (b : Pairs) (others : List Pairs) → filter (agree_on pattern t) r ≡ b ∷ others → IsUpdating spec r t pattern (after spec p CheckFound) s bs ns (Some b)
      still b others e = record {
        search = record { phase = f.search.phase; within = f.search.within; reached = f.search.reached; rising = f.search.rising; columns = f.search.columns; nodes = f.search.nodes; guards = f.search.guards };
        probing = f.probing;
        locks = f.locks;
        exclusive = f.exclusive;
        found = λ y. (b, refl, (others, e));
        checked = f.checked;
      }

      go : (ts : List Pairs) → ts ≡ filter (agree_on pattern t) r
          → ((b : Pairs) (others : List Pairs) → filter (agree_on pattern t) r ≡ b ∷ others → Within (stripes_of (ran plan (updating (Some b) bs ns (rows_on spec r stripes))).named) stripes
          → UpdateEnds (ran plan (updating (Some b) bs ns (rows_on spec r stripes))) (ran plan (updating (Some b) bs ns (all_rows spec r))))
          → Within (stripes_of (ran plan (keep_least ts (updating old bs ns (rows_on spec r stripes)))).named) stripes
          → UpdateEnds (ran plan (keep_least ts (updating old bs ns (rows_on spec r stripes)))) (ran plan (keep_least ts (updating old bs ns (all_rows spec r))))
      go [] e ih w = update_ends plan bs ns old Absent r (rows_on spec r stripes) (all_rows spec r) f.exclusive
          (update-absent spec.most_rows pattern spec.deps t call.ranges r (sym e)) refl refl (λ stripe g. refl)
      go (b ∷ others) e ih w = ih b others (sym e) w
  update_runs (CheckDep dep ∷ plan) p s bs ns old f known keeps v =
      go (some_differs spec (update_op name pattern) dep t bs) refl (λ g. update_runs plan (after spec p (CheckDep dep)) s bs ns old (still g) (λ x m. known x (inr m)) keeps.1) v
    where
      xs : List ℕ
      xs = (dep_at spec dep).left

      number : (0 < dep) × (dep ≤ length spec.deps)
      number = known (CheckDep dep) (inl refl)

      conflict : List EdgeRow → RunState
      conflict rows = record { bindings = bs; named = ns; old = old; reply = Some (Conflict dep); rows = rows }

      there : (o : Pairs) × (old ≡ Some o) × IsOld r t pattern o
      there = f.found keeps.0.k7.0

      seen : IsSeen r (project xs t) p.visited bs
      seen = seen_at spec r i t over p s bs ns f.search f.probing xs keeps.0.k6.0 (dep_at spec dep).right
          (range.known_deps (dep_at spec dep) (get_or_in spec.deps (dep - 1) _ (let l : 0 < dep = number.0 in let m : dep ≤ length spec.deps = number.1 in omega arith))).has_right keeps.0.k6.2

      still : some_differs spec (update_op name pattern) dep t bs ≡ false → IsUpdating spec r t pattern (after spec p (CheckDep dep)) s bs ns old
      still g = record {
        search = record { phase = f.search.phase; within = f.search.within; reached = f.search.reached; rising = f.search.rising; columns = f.search.columns; nodes = f.search.nodes; guards = f.search.guards };
        probing = f.probing;
        locks = f.locks;
        exclusive = f.exclusive;
        found = f.found;
        checked = λ m n. elim n [
          | inl e ↦ subst (λ z. (o : Pairs) → IsOld r t pattern o → IsUnbroken (without o r) t (dep_at spec z)) (sym e)
              (λ o is u y d. differs_not xs p.visited bs dep seen keeps.0.k6.1 keeps.0.k6.2 keeps.0.k6.3 g u (in_filter (λ x. not (tuple_eq x o)) u r y).0 (others_differ o is u y) d)
          | inr y ↦ f.checked m y
        ];
      }

      earlier : (o : Pairs) → IsOld r t pattern o → (d : ℕ) → d < dep → 0 < d → d ≤ length spec.deps → IsUnbroken (without o r) t (dep_at spec d)
      earlier o is d l z q = elim (within_or_not (gather nat_cmp pattern) (dep_at spec d).left) [
        | inl w ↦ unbroken_within spec (without o r) (rest_satisfies o) t pattern (dep_at spec d) (others_differ o is) (in_pattern (dep_at spec d).left w)
        | inr w ↦ elim (checked_before spec (update_op name pattern) tt plan (after spec p (CheckDep dep)) keeps.1 f.search.phase d dep (inl refl) l z q w)
            [ inl e ↦ absurd (omega arith) | inr y ↦ f.checked d y o is ]
      ]

      go : (b : Bool) → some_differs spec (update_op name pattern) dep t bs ≡ b
          → (some_differs spec (update_op name pattern) dep t bs ≡ false → Within (stripes_of (ran plan (updating old bs ns (rows_on spec r stripes))).named) stripes
          → UpdateEnds (ran plan (updating old bs ns (rows_on spec r stripes))) (ran plan (updating old bs ns (all_rows spec r))))
          → Within (stripes_of (ran plan (cond b (conflict (rows_on spec r stripes)) (updating old bs ns (rows_on spec r stripes)))).named) stripes
          → UpdateEnds (ran plan (cond b (conflict (rows_on spec r stripes)) (updating old bs ns (rows_on spec r stripes))))
          (ran plan (cond b (conflict (all_rows spec r)) (updating old bs ns (all_rows spec r))))
      go true g ih w =
          let o : Pairs = there.0 in
          let is : IsOld r t pattern o = there.2 in
          let u : (u : Pairs) × In u r × (project xs t ≡ project xs u) × (agree_on (dep_at spec dep).right u t ≡ false) × (project pattern t ≡ project pattern u → ⊥) =
          differs_so xs p.visited bs dep seen keeps.0.k6.1 keeps.0.k6.2 keeps.0.k6.3 g in
          update_ends plan bs ns old (Conflict dep) r (rows_on spec r stripes) (all_rows spec r) f.exclusive
          (update-found spec.most_rows pattern spec.deps t call.ranges r o is.0 (Some dep) is.1
          (conflict_with spec (without o r) (rest_satisfies o) t dep number.0 number.1 u.0 (differing_is_other o is u.0 u.1 u.4) u.2 u.3 (earlier o is))) refl refl (λ stripe g. refl)
      go false g ih w = ih g w
  update_runs (Apply ∷ plan) p s bs ns old f known keeps v =
      let there : (o : Pairs) × (old ≡ Some o) × IsOld r t pattern o = f.found keeps.0.k7.0 in
      let o : Pairs = there.0 in
      let is : IsOld r t pattern o = there.2 in
      let m : In o r × (project pattern t ≡ project pattern o) = old_in o is in
      let out : In t (without o r) → ⊥ = λ k. others_differ o is t k refl in
      let unbroken : (dep : ℕ) → 0 < dep → dep ≤ length spec.deps → IsUnbroken (without o r) t (dep_at spec dep) = λ dep z q. elim (within_or_not (gather nat_cmp pattern) (dep_at spec dep).left) [
        | inl w ↦ unbroken_within spec (without o r) (rest_satisfies o) t pattern (dep_at spec dep) (others_differ o is) (in_pattern (dep_at spec dep).left w)
        | inr w ↦ f.checked dep (keeps.0.k7.1 dep z q w) o is
      ] in
      let on : AllHeld spec (stripes_of ns) t = tuple_is_named spec r i t over range ok placed p ns f.locks keeps.0.k4.0 in
      let on_old : AllHeld spec (stripes_of ns) o = old_is_named p ns f.locks keeps.0.k4.0 keeps.0.k4.1 o m.0 m.1 in
      let inside : Within (stripes_of ns) stripes = λ c n. v c (stripes_grow spec (update_op name pattern) call (Apply ∷ plan) (updating old bs ns (rows_on spec r stripes)) c n) in
      let held : AllHeld spec stripes t = λ e l. inside (physical_stripe spec (class_of spec e) (row_in spec t e)) (on e l) in
      let held_old : AllHeld spec stripes o = λ e l. inside (physical_stripe spec (class_of spec e) (row_in spec o e)) (on_old e l) in
      subst (λ z. UpdateEnds (ran plan (replace spec z t (updating old bs ns (rows_on spec r stripes)))) (ran plan (replace spec z t (updating old bs ns (all_rows spec r))))) (sym there.1)
      (update_ends plan bs ns old (Updated o) (put tuple_cmp t (without o r)) (with_rows spec t (without_rows spec o (rows_on spec r stripes))) (with_rows spec t (without_rows spec o (all_rows spec r))) f.exclusive
      (update-found spec.most_rows pattern spec.deps t call.ranges r o is.0 None is.1 (no_conflict spec (without o r) (rest_satisfies o) t unbroken))
      (ap (with_rows spec t) (without_rows-fragments spec r stripes o i.rising m.0 held_old) ∙ with_rows-fragments spec (without o r) stripes t out held)
      (ap (with_rows spec o) (without_rows-with spec (without o r) stripes t (rest_rises o) out held) ∙ with_rows-without spec r stripes o i.rising m.0 held_old)
      (λ stripe g. fragment_of-insert spec (without o r) (stripes_of ns) t out on stripe g ∙ fragment_of-remove spec r (stripes_of ns) o i.rising m.0 on_old stripe g))
  update_runs (Emit ∷ plan) p s bs ns old f known keeps v = absurd keeps.0.k1.1
  update_runs (Commit ∷ plan) p s bs ns old f known keeps v = absurd (let e : Phase.Searching ≡ Phase.Decided = sym f.search.phase ∙ keeps.0.k1 in cc)
  update_runs (Release c ∷ plan) p s bs ns old f known keeps v = absurd (let e : Phase.Searching ≡ Phase.Committed = sym f.search.phase ∙ keeps.0.k1.0 in cc)
