-- The law of accepted plans, for inserts.
use Rattle.std.specs.Prelude.{◌≡◌, ℕ, ◌-◌, ◌<◌, ◌≤◌, Bool, true, false, List, [], ◌∷◌, ◌++◌, None, Some, cond, not, length}
use Rattle.rc_plan.specs.Imports.{nat_cmp, In, IsRising, put, gather, in_gather, gather_in, get_or_in, nat_order, Within, Pairs, cols_of, project, pair_cmp, tuple_cmp, tuple_eq, agree_on, project-project, project_less, IsRelation, Satisfies, in_list_any, list_any_in, agree_from_test, test_from_agree, Reply, Inserted, Present, Conflict, Op, Insert, Mode, Exclusive, Spec, IsAdequate, all_columns, join, EdgeRow, all_rows, tuples_of_edge, rows_on, fragment_of, IsSeen, IsInRange, class_of, IsPlaced, Outcome, plain_by, insert-present, insert-absent, physical_stripe, row_in, with_rows, AllHeld, with_rows-fragments, without_rows-with, fragment_of-insert, StripeLock, Call}
use Rattle.std.proofs.Common.{inl, inr, refl, sym, ap, subst, ◌∙◌, arith}
use Rattle.std.proofs.lemmas.Bool.{true≢false, cases_Bool, not_from_false, not-true}
use Rattle.rc_plan.specs.declared.statement.ReadMode.{ReadMode}
use Rattle.rc_plan.specs.declared.statement.Statement.{Statement}
use Rattle.rc_plan.specs.declared.statement.Statement.TheVariants.{Lock, Probe, Read, CheckAbsent, CheckFound, CheckDep, Apply, Emit, Commit, Release}
use Rattle.rc_plan.specs.declared.statement.Which.{Which}
use Rattle.rc_plan.specs.ConflictLaws.{list_any_none, within_or_not, IsUnbroken, no_conflict, conflict_with, unbroken_within}
use Rattle.rc_plan.specs.Evaluation.{RunState, dep_at, some_left, some_differs, stripes_locked, named_by, run, rows_as_taken}
use Rattle.rc_plan.specs.PlanRules.{Phase, Progress, after, AreKnown, KeepsAll, KeepsFrom}
use Rattle.rc_plan.specs.RunLaws.{EndsAs, run-replied, stripes_grow, lock_keeps, read_keeps, read_same}
use Rattle.rc_plan.specs.StripeLocks.{stripe_lock_cmp, stripes_of, AreIn}
use Rattle.rc_plan.specs.StripeLocksLaws.{AreIn-more, not_named}
use Rattle.rc_plan.specs.Search.{searching, IsSearching}
use Rattle.rc_plan.specs.ProbeLaws.{checked_before, one_left, none_left, more_named, tuple_named, probe_searching, IsProbing, t_rises, found_one, one_found, up_at, seen_at, tuple_is_named}
use Rattle.rc_plan.specs.NamedStripes.{HasNamed}

abbrev pub insert_op : List ℕ → List ℕ → Op
insert_op name pattern = record { name = name; pattern = pattern; kind = Insert }

-- where a run of an insert of t stands
pub record IsInserting (spec : Spec) (r : List Pairs) (t : Pairs) (pattern : List ℕ) (p : Progress) (s : Pairs) (bs : List Pairs) (ns : List StripeLock) : Type 0 where
  pub search : IsSearching spec r s p bs ns
  pub probing : IsProbing t p s bs
  pub locks : (x : ℕ × Which) → In x p.locked → HasNamed spec t (stripes_of ns) x.0 x.1
  pub exclusive : AreIn Exclusive ns
  pub absent : p.sought ≡ true → (u : Pairs) → In u r → project pattern t ≡ project pattern u → ⊥
  pub checked : (dep : ℕ) → In dep p.checked → IsUnbroken r t (dep_at spec dep)

module _ (spec : Spec) (range : IsInRange spec) (ok : IsAdequate spec) (placed : IsPlaced spec) (r : List Pairs) (i : IsRelation (all_columns spec) r) (h : Satisfies r spec.deps)
    (call : Call) (over : cols_of call.args ≡ all_columns spec) (name pattern : List ℕ) (some_pattern : pattern ≡ [] → ⊥) (stripes : List ℕ) where
  abbrev t : Pairs
  t = call.args

  abbrev ran : List Statement → RunState → RunState
  ran = run spec (insert_op name pattern) call

  -- what a check of a dependency finds
  differs_so : (xs visited : List ℕ) (bs : List Pairs) (dep : ℕ) → IsSeen r (project xs t) visited bs → Within xs visited
      → Within (dep_at spec dep).right visited → some_differs spec (insert_op name pattern) dep t bs ≡ true
      → (u : Pairs) × In u r × (project xs t ≡ project xs u) × (agree_on (dep_at spec dep).right u t ≡ false)
  differs_so xs visited bs dep seen w v e =
      let ys : List ℕ = (dep_at spec dep).right in
      let b : (b : Pairs) × In b bs × (not (agree_on ys b t) ≡ true) = in_list_any (λ b. not (agree_on ys b t)) bs e in
      let u : (u : Pairs) × In u r × (project xs t ≡ project xs u) × (b.0 ≡ project visited u) = found_one spec r i t over xs visited bs seen w b.0 b.1 in
      let c : project ys b.0 ≡ project ys u.0 = ap (project ys) u.3 ∙ project-project ys visited u.0 v in
      (u.0, u.1, u.2, ap (λ z. tuple_eq z (project ys t)) (sym c) ∙ not-true (agree_on ys b.0 t) b.2)

  differs_not : (xs visited : List ℕ) (bs : List Pairs) (dep : ℕ) → IsSeen r (project xs t) visited bs → Within xs visited
      → Within (dep_at spec dep).right visited → some_differs spec (insert_op name pattern) dep t bs ≡ false
      → (u : Pairs) → In u r → project xs t ≡ project xs u → project (dep_at spec dep).right t ≡ project (dep_at spec dep).right u
  differs_not xs visited bs dep seen w v e u m f =
      let ys : List ℕ = (dep_at spec dep).right in
      let n : In (project visited u) bs = one_found spec r i t over xs visited bs seen w u m f in
      elim (cases_Bool (agree_on ys (project visited u) t)) [
        | inl g ↦ sym (agree_from_test ys (project visited u) t g) ∙ project-project ys visited u v
        | inr g ↦ absurd (true≢false (sym (list_any_in (λ b. not (agree_on ys b t)) bs (project visited u) n (not_from_false (agree_on ys (project visited u) t) g)) ∙ e))
      ]

  -- ---- the end

  abbrev InsertEnds : RunState → RunState → Type 0
  InsertEnds one two = EndsAs spec t one two r (plain_by spec.most_rows Insert pattern spec.deps t call.ranges r) stripes

  insert_ends : (plan : List Statement) (bs : List Pairs) (ns : List StripeLock) (reply : Reply) (new : List Pairs) (rows all : List EdgeRow) → AreIn Exclusive ns
      → plain_by spec.most_rows Insert pattern spec.deps t call.ranges r ≡ record { reply = reply; relation = new } → rows ≡ rows_on spec new stripes
      → rows_as_taken spec t reply (rows_on spec new stripes) ≡ rows_on spec r stripes
      → ((stripe : ℕ) → (In stripe (stripes_of ns) → ⊥) → fragment_of spec new stripe ≡ fragment_of spec r stripe)
      → InsertEnds (ran plan (record { bindings = bs; named = ns; old = None; reply = Some reply; rows = rows })) (ran plan (record { bindings = bs; named = ns; old = None; reply = Some reply; rows = all }))
  insert_ends plan bs ns reply new rows all x e f back g =
      let one = run-replied spec (insert_op name pattern) call plan bs ns None reply rows in
      let two = run-replied spec (insert_op name pattern) call plan bs ns None reply all in
      subst (λ (o : Outcome). EndsAs spec t (ran plan (record { bindings = bs; named = ns; old = None; reply = Some reply; rows = rows })) (ran plan (record { bindings = bs; named = ns; old = None; reply = Some reply; rows = all })) r o stripes) (sym e)
      (record {
        reply = ap (λ (z : RunState). z.reply) one;
        named = ap (λ (z : RunState). z.named) one ∙ sym (ap (λ (z : RunState). z.named) two);
        rows = ap (λ (z : RunState). z.rows) one ∙ f;
        taken = back;
        others = λ stripe m. g stripe (not_named Exclusive ns stripe x (λ n. m (subst (λ z. In (stripe, Exclusive) z) (sym (ap (λ (z : RunState). z.named) one)) n)));
      })

  -- ---- the steps

  lock_inserting : (p : Progress) (s : Pairs) (bs : List Pairs) (ns : List StripeLock) (c : ℕ) (choice : Which) (mode : Mode)
      → IsInserting spec r t pattern p s bs ns → IsRising pair_cmp s → c < length spec.classes
      → KeepsAll spec (insert_op name pattern) p (Lock c choice mode)
      → IsInserting spec r t pattern (after spec p (Lock c choice mode)) s bs (gather stripe_lock_cmp (ns ++ named_by spec c choice mode bs))
  lock_inserting p s bs ns c choice mode f s_up l keeps = record {
    search = lock_keeps spec range ok placed r i h s s_up p bs ns c choice mode f.search l keeps.k3;
    probing = f.probing;
    locks = λ x m. elim m [
      | inl e ↦ subst (λ (z : ℕ × Which). HasNamed spec t (stripes_of (gather stripe_lock_cmp (ns ++ named_by spec c choice mode bs))) z.0 z.1) (sym e) (now choice f.probing)
      | inr n ↦ more_named spec t ns (named_by spec c choice mode bs) x.0 x.1 (f.locks x n)
    ];
    exclusive = subst (λ m. AreIn Exclusive (gather stripe_lock_cmp (ns ++ named_by spec c choice m bs))) (sym keeps.k1.2) (AreIn-more Exclusive ns (stripes_locked spec c choice bs) f.exclusive);
    absent = f.absent;
    checked = f.checked;
  }
    where
      now : (choice : Which) → IsProbing t p s bs → HasNamed spec t (stripes_of (gather stripe_lock_cmp (ns ++ named_by spec c choice mode bs))) c choice
      now choice (inl e) = tuple_named spec placed t bs ns mode c l choice e.2
      now choice (inr e) = absurd (let g : None ≡ Some e.0 = sym keeps.k1.1 ∙ e.1 in cc)

  probe_inserting : (p : Progress) (s : Pairs) (bs : List Pairs) (ns : List StripeLock) (xs : List ℕ) → IsInserting spec r t pattern p s bs ns
      → Within xs (all_columns spec)
      → IsInserting spec r t pattern (after spec p (Probe xs)) (project xs t) (project xs t ∷ []) ns
  probe_inserting p s bs ns xs f known = record {
    search = probe_searching spec r t (t_rises spec r i t over) over p ns xs f.search.phase known f.locks;
    probing = inr (xs, refl, refl);
    locks = f.locks;
    exclusive = f.exclusive;
    absent = f.absent;
    checked = f.checked;
  }

  read_inserting : (p : Progress) (s : Pairs) (bs : List Pairs) (ns : List StripeLock) (e : ℕ) (mode : ReadMode)
      → IsInserting spec r t pattern p s bs ns → IsRising pair_cmp s → e < length spec.edges
      → KeepsAll spec (insert_op name pattern) p (Read e mode)
      → IsInserting spec r t pattern (after spec p (Read e mode)) s (join bs (tuples_of_edge e (all_rows spec r))) ns
  read_inserting p s bs ns e mode f s_up l keeps = record {
    search = read_keeps spec range ok placed r i h s s_up p bs ns e mode f.search l keeps.k5;
    probing = still f.probing;
    locks = f.locks;
    exclusive = f.exclusive;
    absent = f.absent;
    checked = f.checked;
  }
    where
      still : IsProbing t p s bs → IsProbing t p s (join bs (tuples_of_edge e (all_rows spec r)))
      still (inl g) = absurd (let q : None ≡ Some keeps.k1.1.0 = sym g.0 ∙ keeps.k1.1.1 in cc)
      still (inr g) = inr g

  pattern_inside : (xs : List ℕ) → Within (gather nat_cmp pattern) xs → Within pattern xs
  pattern_inside xs w c m = w c (gather_in nat_cmp nat_order c pattern m)

  -- ---- whole runs

  pub insert_runs : (plan : List Statement) (p : Progress) (s : Pairs) (bs : List Pairs) (ns : List StripeLock)
      → IsInserting spec r t pattern p s bs ns → AreKnown spec plan → KeepsFrom spec (insert_op name pattern) p plan
      → Within (stripes_of (ran plan (searching bs ns (rows_on spec r stripes))).named) stripes
      → InsertEnds (ran plan (searching bs ns (rows_on spec r stripes))) (ran plan (searching bs ns (all_rows spec r)))
  insert_runs [] p s bs ns f known keeps v = absurd (let e : Phase.Searching ≡ Phase.Committed = sym f.search.phase ∙ keeps.0 in cc)
  insert_runs (Lock c choice mode ∷ plan) p s bs ns f known keeps v =
      insert_runs plan (after spec p (Lock c choice mode)) s bs (gather stripe_lock_cmp (ns ++ named_by spec c choice mode bs))
      (lock_inserting p s bs ns c choice mode f (up_at spec r i t over p s bs f.probing) (known (Lock c choice mode) (inl refl)) keeps.0) (λ x m. known x (inr m)) keeps.1 v
  insert_runs (Probe cols ∷ plan) p s bs ns f known keeps v =
      insert_runs plan (after spec p (Probe cols)) (project cols t) (project cols t ∷ []) ns (probe_inserting p s bs ns cols f (known (Probe cols) (inl refl))) (λ x m. known x (inr m)) keeps.1 v
  insert_runs (Read e mode ∷ plan) p s bs ns f known keeps v =
      let l : e < length spec.edges = known (Read e mode) (inl refl) in
      let all : List Pairs = join bs (tuples_of_edge e (all_rows spec r)) in
      let same : join bs (tuples_of_edge e (rows_on spec r stripes)) ≡ all =
      read_same spec range ok placed r i h s (up_at spec r i t over p s bs f.probing) p bs ns stripes e mode f.search l keeps.0.k3
      (λ c n. v c (stripes_grow spec (insert_op name pattern) call (Read e mode ∷ plan) (searching bs ns (rows_on spec r stripes)) c n)) in
      subst (λ z. InsertEnds (ran plan (searching z ns (rows_on spec r stripes))) (ran plan (searching all ns (all_rows spec r)))) (sym same)
      (insert_runs plan (after spec p (Read e mode)) s all ns (read_inserting p s bs ns e mode f (up_at spec r i t over p s bs f.probing) l keeps.0) (λ x m. known x (inr m)) keeps.1
      (subst (λ z. Within (stripes_of (ran plan (searching z ns (rows_on spec r stripes))).named) stripes) same v))
  insert_runs (CheckAbsent ∷ plan) p s bs ns f known keeps v =
      go (some_left bs) refl (λ g. insert_runs plan (after spec p CheckAbsent) s bs ns (still g) (λ x m. known x (inr m)) keeps.1) v
    where
      xs : List ℕ
      xs = gather nat_cmp pattern

      present : List EdgeRow → RunState
      present rows = record { bindings = bs; named = ns; old = None; reply = Some Present; rows = rows }

      seen : IsSeen r (project xs t) p.visited bs
      seen = seen_at spec r i t over p s bs ns f.search f.probing xs keeps.0.k6.0 pattern some_pattern (pattern_inside p.visited keeps.0.k6.1)

      to_pattern : (u : Pairs) → project xs t ≡ project xs u → project pattern t ≡ project pattern u
      to_pattern u e = project_less pattern xs t u (λ c m. gather_in nat_cmp nat_order c pattern m) e

      from_pattern : (u : Pairs) → project pattern t ≡ project pattern u → project xs t ≡ project xs u
      from_pattern u e = project_less xs pattern t u (λ c m. in_gather nat_cmp nat_order c pattern m) e

      still : some_left bs ≡ false → IsInserting spec r t pattern (after spec p CheckAbsent) s bs ns
      still g = record {
        search = record { phase = f.search.phase; within = f.search.within; reached = f.search.reached; rising = f.search.rising; columns = f.search.columns; nodes = f.search.nodes; guards = f.search.guards };
        probing = f.probing;
        locks = f.locks;
        exclusive = f.exclusive;
        absent = λ y u m e. none_left bs g (project p.visited u) (one_found spec r i t over xs p.visited bs seen keeps.0.k6.1 u m (from_pattern u e));
        checked = f.checked;
      }

      go : (b : Bool) → some_left bs ≡ b
          → (some_left bs ≡ false → Within (stripes_of (ran plan (searching bs ns (rows_on spec r stripes))).named) stripes
          → InsertEnds (ran plan (searching bs ns (rows_on spec r stripes))) (ran plan (searching bs ns (all_rows spec r))))
          → Within (stripes_of (ran plan (cond b (present (rows_on spec r stripes)) (searching bs ns (rows_on spec r stripes)))).named) stripes
          → InsertEnds (ran plan (cond b (present (rows_on spec r stripes)) (searching bs ns (rows_on spec r stripes))))
          (ran plan (cond b (present (all_rows spec r)) (searching bs ns (all_rows spec r))))
      go true g ih w =
          let b : (b : Pairs) × In b bs = one_left bs g in
          let u : (u : Pairs) × In u r × (project xs t ≡ project xs u) × (b.0 ≡ project p.visited u) = found_one spec r i t over xs p.visited bs seen keeps.0.k6.1 b.0 b.1 in
          insert_ends plan bs ns Present r (rows_on spec r stripes) (all_rows spec r) f.exclusive
          (insert-present spec.most_rows pattern spec.deps t call.ranges r (list_any_in (agree_on pattern t) r u.0 u.1 (test_from_agree pattern t u.0 (to_pattern u.0 u.2)))) refl refl (λ stripe g. refl)
      go false g ih w = ih g w
  insert_runs (CheckDep dep ∷ plan) p s bs ns f known keeps v =
      go (some_differs spec (insert_op name pattern) dep t bs) refl (λ g. insert_runs plan (after spec p (CheckDep dep)) s bs ns (still g) (λ x m. known x (inr m)) keeps.1) v
    where
      xs : List ℕ
      xs = (dep_at spec dep).left

      number : (0 < dep) × (dep ≤ length spec.deps)
      number = known (CheckDep dep) (inl refl)

      conflict : List EdgeRow → RunState
      conflict rows = record { bindings = bs; named = ns; old = None; reply = Some (Conflict dep); rows = rows }

      none : (u : Pairs) → In u r → project pattern t ≡ project pattern u → ⊥
      none = f.absent keeps.0.k7.0

      seen : IsSeen r (project xs t) p.visited bs
      seen = seen_at spec r i t over p s bs ns f.search f.probing xs keeps.0.k6.0 (dep_at spec dep).right
          (range.known_deps (dep_at spec dep) (get_or_in spec.deps (dep - 1) _ (let l : 0 < dep = number.0 in let m : dep ≤ length spec.deps = number.1 in omega arith))).has_right keeps.0.k6.2

      still : some_differs spec (insert_op name pattern) dep t bs ≡ false → IsInserting spec r t pattern (after spec p (CheckDep dep)) s bs ns
      still g = record {
        search = record { phase = f.search.phase; within = f.search.within; reached = f.search.reached; rising = f.search.rising; columns = f.search.columns; nodes = f.search.nodes; guards = f.search.guards };
        probing = f.probing;
        locks = f.locks;
        exclusive = f.exclusive;
        absent = f.absent;
        checked = λ m n. elim n [
          | inl e ↦ subst (λ z. IsUnbroken r t (dep_at spec z)) (sym e) (λ u y d. differs_not xs p.visited bs dep seen keeps.0.k6.1 keeps.0.k6.2 g u y d)
          | inr y ↦ f.checked m y
        ];
      }

      earlier : (d : ℕ) → d < dep → 0 < d → d ≤ length spec.deps → IsUnbroken r t (dep_at spec d)
      earlier d l z q = elim (within_or_not (gather nat_cmp pattern) (dep_at spec d).left) [
        | inl w ↦ unbroken_within spec r h t pattern (dep_at spec d) none (pattern_inside (dep_at spec d).left w)
        | inr w ↦ elim (checked_before spec (insert_op name pattern) tt plan (after spec p (CheckDep dep)) keeps.1 f.search.phase d dep (inl refl) l z q w)
            [ inl e ↦ absurd (omega arith) | inr y ↦ f.checked d y ]
      ]

      go : (b : Bool) → some_differs spec (insert_op name pattern) dep t bs ≡ b
          → (some_differs spec (insert_op name pattern) dep t bs ≡ false → Within (stripes_of (ran plan (searching bs ns (rows_on spec r stripes))).named) stripes
          → InsertEnds (ran plan (searching bs ns (rows_on spec r stripes))) (ran plan (searching bs ns (all_rows spec r))))
          → Within (stripes_of (ran plan (cond b (conflict (rows_on spec r stripes)) (searching bs ns (rows_on spec r stripes)))).named) stripes
          → InsertEnds (ran plan (cond b (conflict (rows_on spec r stripes)) (searching bs ns (rows_on spec r stripes))))
          (ran plan (cond b (conflict (all_rows spec r)) (searching bs ns (all_rows spec r))))
      go true g ih w =
          let u : (u : Pairs) × In u r × (project xs t ≡ project xs u) × (agree_on (dep_at spec dep).right u t ≡ false) = differs_so xs p.visited bs dep seen keeps.0.k6.1 keeps.0.k6.2 g in
          insert_ends plan bs ns (Conflict dep) r (rows_on spec r stripes) (all_rows spec r) f.exclusive
          (insert-absent spec.most_rows pattern spec.deps t call.ranges r (Some dep) (list_any_none (agree_on pattern t) r (λ x m e. none x m (agree_from_test pattern t x e)))
          (conflict_with spec r h t dep number.0 number.1 u.0 u.1 u.2 u.3 earlier)) refl refl (λ stripe g. refl)
      go false g ih w = ih g w
  insert_runs (Apply ∷ plan) p s bs ns f known keeps v =
      let none : (u : Pairs) → In u r → project pattern t ≡ project pattern u → ⊥ = f.absent keeps.0.k7.0 in
      let out : In t r → ⊥ = λ m. none t m refl in
      let unbroken : (dep : ℕ) → 0 < dep → dep ≤ length spec.deps → IsUnbroken r t (dep_at spec dep) = λ dep z q. elim (within_or_not (gather nat_cmp pattern) (dep_at spec dep).left) [
        | inl w ↦ unbroken_within spec r h t pattern (dep_at spec dep) none (pattern_inside (dep_at spec dep).left w)
        | inr w ↦ f.checked dep (keeps.0.k7.1 dep z q w)
      ] in
      let on : AllHeld spec (stripes_of ns) t = tuple_is_named spec r i t over range ok placed p ns f.locks keeps.0.k4.0 in
      let held : AllHeld spec stripes t = λ e l. v (physical_stripe spec (class_of spec e) (row_in spec t e))
      (stripes_grow spec (insert_op name pattern) call (Apply ∷ plan) (searching bs ns (rows_on spec r stripes)) (physical_stripe spec (class_of spec e) (row_in spec t e)) (on e l)) in
      insert_ends plan bs ns Inserted (put tuple_cmp t r) (with_rows spec t (rows_on spec r stripes)) (with_rows spec t (all_rows spec r)) f.exclusive
      (insert-absent spec.most_rows pattern spec.deps t call.ranges r None (list_any_none (agree_on pattern t) r (λ x m e. none x m (agree_from_test pattern t x e))) (no_conflict spec r h t unbroken))
      (with_rows-fragments spec r stripes t out held) (without_rows-with spec r stripes t i.rising out held) (fragment_of-insert spec r (stripes_of ns) t out on)
  insert_runs (CheckFound ∷ plan) p s bs ns f known keeps v = absurd keeps.0.k1.1
  insert_runs (Emit ∷ plan) p s bs ns f known keeps v = absurd keeps.0.k1.1
  insert_runs (Commit ∷ plan) p s bs ns f known keeps v = absurd (let e : Phase.Searching ≡ Phase.Decided = sym f.search.phase ∙ keeps.0.k1 in cc)
  insert_runs (Release c ∷ plan) p s bs ns f known keeps v = absurd (let e : Phase.Searching ≡ Phase.Committed = sym f.search.phase ∙ keeps.0.k1.0 in cc)
