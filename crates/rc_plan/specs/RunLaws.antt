-- Laws of runs: what the bindings are while an accepted plan searches, and that the rows of the named stripes are enough for its reads.
use Rattle.std.specs.Prelude.{◌≡◌, ℕ, zero, suc, take, drop, ◌<◌, Bool, true, false, List, [], ◌∷◌, ◌++◌, Option, None, Some, map, cond, length, is_some}
use Rattle.std.proofs.Common.{inl, inr, refl, sym, subst}
use Rattle.rc_plan.specs.Imports.{In, IsRising, gather, same_rising, gather_in, append_in_left, in_map, map_in, Within, union, in_union, union_left, union_right, union_within, rising_range, Pairs, cols_of, project, agrees, pair_cmp, tuple_cmp, merge, Agree, agree_from, tuple_order, project_in, merge_left, merge_right, IsRelation, Satisfies, Call, Reply, Present, Conflict, Op, OpKind, Query, Insert, Remove, Update, Mode, Exclusive, Range, Spec, IsAdequate, all_columns, join, target_within, lossless_holds, bound, target_columns, EdgeRow, all_rows, tuples_of_edge, row_stripe, rows_on, fragment_of, in_tuples_of_edge, tuples_of_edge_in, AreProjections-rows, in_fragments, fragments_in, IsJoined, AreProjections, in_join, join_in, rising_join, reached_more, IsInRange, class_at, class_of, IsPlaced, Outcome, physical_stripe, StripeLock}
use Rattle.rc_plan.specs.declared.statement.ReadMode.{ReadMode}
use Rattle.rc_plan.specs.declared.statement.Statement.{Statement}
use Rattle.rc_plan.specs.declared.statement.Statement.TheVariants.{Lock, Probe, Read, CheckAbsent, CheckFound, CheckDep, Apply, Emit, Commit, Release}
use Rattle.rc_plan.specs.declared.statement.Which.{Which}
use Rattle.rc_plan.specs.declared.statement.Which.TheVariants as which
use Rattle.rc_plan.specs.Evaluation.{RunState, stripes_locked, named_by, some_left, some_differs, remove_least, keep_least, replace, apply, emit, run_one, run_next, run, rows_as_taken}
use Rattle.rc_plan.specs.PlanRules.{Progress, after, at_start, given_columns, IsKeyBound, KeepsK3, KeepsK5}
use Rattle.rc_plan.specs.StripeLocks.{stripe_lock_cmp, stripes_of}
use Rattle.rc_plan.specs.StripeLocksLaws.{stripe_lock_order, named_before, named_now, physical_stripe-agreeing, physical_stripe-in_band, striping_in_target}
use Rattle.rc_plan.specs.Search.{IsSearching}

-- ---- columns of projections and of merges

pub cols_of-project : (xs : List ℕ) (t : Pairs) (c : ℕ) → In c xs → In c (cols_of t) → In c (cols_of (project xs t))
cols_of-project xs t c h k =
    let q : (p : ℕ × ℕ) × In p t × (c ≡ p.0) = in_map (λ (p : ℕ × ℕ). p.0) c t k in
    subst (λ z. In z (cols_of (project xs t))) (sym q.2) (map_in (λ (p : ℕ × ℕ). p.0) q.0 (project xs t) (project_in xs q.0 t q.1 (subst (λ z. In z xs) q.2 h)))

pub cols_of-merge_left : (t u : Pairs) (c : ℕ) → In c (cols_of t) → In c (cols_of (merge t u))
cols_of-merge_left t u c h =
    let q : (p : ℕ × ℕ) × In p t × (c ≡ p.0) = in_map (λ (p : ℕ × ℕ). p.0) c t h in
    subst (λ z. In z (cols_of (merge t u))) (sym q.2) (map_in (λ (p : ℕ × ℕ). p.0) q.0 (merge t u) (merge_left t u q.0 q.1))

pub cols_of-merge_right : (t u : Pairs) (c : ℕ) → In c (cols_of u) → In c (cols_of (merge t u))
cols_of-merge_right t u c h =
    let q : (p : ℕ × ℕ) × In p u × (c ≡ p.0) = in_map (λ (p : ℕ × ℕ). p.0) c u h in
    subst (λ z. In z (cols_of (merge t u))) (sym q.2) (map_in (λ (p : ℕ × ℕ). p.0) q.0 (merge t u) (merge_right t u q.0 q.1))

-- ---- the rows of an edge in fragments

pub AreProjections-all_rows : (spec : Spec) (r : List Pairs) (e : ℕ) → e < length spec.edges
    → AreProjections r (target_columns spec e) (tuples_of_edge e (all_rows spec r))
AreProjections-all_rows spec r e l = AreProjections-rows spec r (all_rows spec r) (λ w m. m) (λ w m. m) e l

-- they are among all rows of the edge
pub edge_of_fragments : (spec : Spec) (r : List Pairs) (stripes : List ℕ) (e : ℕ) (u : Pairs) → In u (tuples_of_edge e (rows_on spec r stripes))
    → In u (tuples_of_edge e (all_rows spec r))
edge_of_fragments spec r stripes e u h =
    let q : (w : EdgeRow) × In w (rows_on spec r stripes) × (w.0 ≡ e) × (u ≡ w.1) = in_tuples_of_edge e (rows_on spec r stripes) u h in
    subst (λ z. In z (tuples_of_edge e (all_rows spec r))) (sym q.3) (tuples_of_edge_in e (all_rows spec r) q.0 (in_fragments spec r stripes q.0 q.1).0 q.2)

-- and a row that falls on one of the stripes is among them
pub fragments_of_edge : (spec : Spec) (r : List Pairs) (stripes : List ℕ) (e : ℕ) (u : Pairs) → In u (tuples_of_edge e (all_rows spec r))
    → In (physical_stripe spec (class_of spec e) u) stripes
    → In u (tuples_of_edge e (rows_on spec r stripes))
fragments_of_edge spec r stripes e u h k =
    let q : (w : EdgeRow) × In w (all_rows spec r) × (w.0 ≡ e) × (u ≡ w.1) = in_tuples_of_edge e (all_rows spec r) u h in
    let p : In (row_stripe spec q.0) stripes = subst (λ z. In (physical_stripe spec (class_of spec z) q.0.1) stripes) (sym q.2) (subst (λ z. In (physical_stripe spec (class_of spec e) z) stripes) q.3 k) in
    subst (λ z. In z (tuples_of_edge e (rows_on spec r stripes))) (sym q.3)
    (tuples_of_edge_in e (rows_on spec r stripes) q.0 (fragments_in spec r stripes q.0 q.1 p) q.2)

-- a join loses nothing where each row that some binding agrees with is there
pub join_same : (bs us vs : List Pairs) → ((u : Pairs) → In u us → In u vs) → ((b u : Pairs) → In b bs → In u vs → agrees b u ≡ true → In u us)
    → join bs us ≡ join bs vs
join_same bs us vs f g =
    same_rising tuple_cmp tuple_order (join bs us) (join bs vs) (rising_join bs us) (rising_join bs vs)
    (λ c h. let j : IsJoined bs us c = in_join bs us c h in
    subst (λ z. In z (join bs vs)) (sym j.merged) (join_in bs vs j.left j.right j.in_left (f j.right j.in_right) j.agree))
    (λ c h. let j : IsJoined bs vs c = in_join bs vs c h in
    subst (λ z. In z (join bs us)) (sym j.merged) (join_in bs us j.left j.right j.in_left (g j.left j.right j.in_left j.in_right j.agree) j.agree))

-- ---- named stripes stay named

in_either : (lock : StripeLock) (b : Bool) (x y : RunState) → In lock x.named → In lock y.named → In lock (cond b x y).named
in_either lock true x y h k = h
in_either lock false x y h k = k

named-remove_least : (spec : Spec) (bs : List Pairs) (state : RunState) → (remove_least spec bs state).named ≡ state.named
named-remove_least spec [] state = refl
named-remove_least spec (b ∷ bs) state = refl

pub named-keep_least : (bs : List Pairs) (state : RunState) → (keep_least bs state).named ≡ state.named
named-keep_least [] state = refl
named-keep_least (b ∷ bs) state = refl

named-replace : (spec : Spec) (old : Option Pairs) (args : Pairs) (state : RunState) → (replace spec old args state).named ≡ state.named
named-replace spec None args state = refl
named-replace spec (Some old) args state = refl

pub named-apply : (spec : Spec) (kind : OpKind) (args : Pairs) (state : RunState) → (apply spec kind args state).named ≡ state.named
named-apply spec (Query outs ranges) args state = refl
named-apply spec Insert args state = refl
named-apply spec Remove args state = named-remove_least spec state.bindings state
named-apply spec Update args state = named-replace spec state.old args state

pub named-emit : (most : ℕ) (kind : OpKind) (ranges : List Range) (state : RunState) → (emit most kind ranges state).named ≡ state.named
named-emit most (Query outs cols) ranges state = refl
named-emit most Insert ranges state = refl
named-emit most Remove ranges state = refl
named-emit most Update ranges state = refl

named-either : (b : Bool) (x y : RunState) → x.named ≡ y.named → (cond b x y).named ≡ y.named
named-either true x y e = e
named-either false x y e = refl

pub named-check_absent : (spec : Spec) (op : Op) (call : Call) (state : RunState) → (run_one spec op call state CheckAbsent).named ≡ state.named
named-check_absent spec op call state = named-either (some_left state.bindings) (record state { reply = Some Present }) state refl

pub named-check_dep : (spec : Spec) (op : Op) (call : Call) (state : RunState) (dep : ℕ) → (run_one spec op call state (CheckDep dep)).named ≡ state.named
named-check_dep spec op call state dep = named-either (some_differs spec op dep call.args state.bindings) (record state { reply = Some (Conflict dep) }) state refl

named-run_one : (spec : Spec) (op : Op) (call : Call) (state : RunState) (x : Statement) (lock : StripeLock) → In lock state.named
    → In lock (run_one spec op call state x).named
named-run_one spec op call state (Lock c choice mode) lock h =
    let more : List StripeLock = named_by spec c choice mode state.bindings in
    gather_in stripe_lock_cmp stripe_lock_order lock (state.named ++ more) (append_in_left lock state.named more h)
named-run_one spec op call state (Probe cols) lock h = h
named-run_one spec op call state (Read e mode) lock h = h
named-run_one spec op call state CheckAbsent lock h = in_either lock (some_left state.bindings) (record state { reply = Some Present }) state h h
named-run_one spec op call state CheckFound lock h = subst (In lock) (sym (named-keep_least state.bindings state)) h
named-run_one spec op call state (CheckDep dep) lock h = in_either lock (some_differs spec op dep call.args state.bindings) (record state { reply = Some (Conflict dep) }) state h h
named-run_one spec op call state Apply lock h = subst (In lock) (sym (named-apply spec op.kind call.args state)) h
named-run_one spec op call state Emit lock h = subst (In lock) (sym (named-emit spec.most_rows op.kind call.ranges state)) h
named-run_one spec op call state Commit lock h = h
named-run_one spec op call state (Release c) lock h = h

pub named_grows : (spec : Spec) (op : Op) (call : Call) (plan : List Statement) (state : RunState) (lock : StripeLock) → In lock state.named
    → In lock (run spec op call plan state).named
named_grows spec op call [] state lock h = h
named_grows spec op call (x ∷ plan) state lock h =
    named_grows spec op call plan (run_next spec op call state x) lock (in_either lock (is_some state.reply) state (run_one spec op call state x) h (named-run_one spec op call state x lock h))

-- the same for the numbers of the stripes
pub stripes_grow : (spec : Spec) (op : Op) (call : Call) (plan : List Statement) (state : RunState)
    → Within (stripes_of state.named) (stripes_of (run spec op call plan state).named)
stripes_grow spec op call plan state stripe h =
    let q : (lock : StripeLock) × In lock state.named × (stripe ≡ lock.0) = in_map (λ (lock : StripeLock). lock.0) stripe state.named h in
    subst (λ z. In z (stripes_of (run spec op call plan state).named)) (sym q.2)
    (map_in (λ (lock : StripeLock). lock.0) q.0 (run spec op call plan state).named (named_grows spec op call plan state q.0 q.1))

-- a run is that of its first statements, and then of the others
pub run-split : (spec : Spec) (op : Op) (call : Call) (plan : List Statement) (n : ℕ) (state : RunState)
    → run spec op call plan state ≡ run spec op call (drop n plan) (run spec op call (take n plan) state)
run-split spec op call plan zero state = refl
run-split spec op call [] (suc n) state = refl
run-split spec op call (x ∷ plan) (suc n) state = run-split spec op call plan n (run_next spec op call state x)

-- a run with a reply stays as it is
pub run-replied : (spec : Spec) (op : Op) (call : Call) (plan : List Statement) (bs : List Pairs) (ns : List StripeLock) (old : Option Pairs) (reply : Reply) (rows : List EdgeRow)
    → run spec op call plan (record { bindings = bs; named = ns; old = old; reply = Some reply; rows = rows })
    ≡ record { bindings = bs; named = ns; old = old; reply = Some reply; rows = rows }
run-replied spec op call [] bs ns old reply rows = refl
run-replied spec op call (x ∷ plan) bs ns old reply rows = run-replied spec op call plan bs ns old reply rows

-- ---- two runs to their ends

-- a run on the rows of some stripes ended like the plain step, and named what a run on all rows named
pub record EndsAs (spec : Spec) (args : Pairs) (one two : RunState) (r : List Pairs) (outcome : Outcome) (stripes : List ℕ) : Type 0 where
  pub reply : one.reply ≡ Some outcome.reply
  pub named : one.named ≡ two.named
  pub rows : one.rows ≡ rows_on spec outcome.relation stripes
  pub taken : rows_as_taken spec args outcome.reply (rows_on spec outcome.relation stripes) ≡ rows_on spec r stripes
  pub others : (stripe : ℕ) → (In (stripe, Exclusive) one.named → ⊥) → fragment_of spec outcome.relation stripe ≡ fragment_of spec r stripe

-- ---- the search

pub search_begins : (spec : Spec) (r : List Pairs) (args : Pairs) (op : Op) → cols_of args ≡ given_columns spec op
    → IsSearching spec r args (at_start spec op) (args ∷ []) []
search_begins spec r args op fits = record {
  phase = refl;
  within = λ c z. absurd z;
  reached = inl (refl, refl);
  rising = ((λ y q. absurd q), tt);
  columns = λ b m. elim m [ inl e ↦ λ c n. subst (λ z. In c (cols_of z)) (sym e) (subst (In c) (sym fits) n) | inr z ↦ absurd z ];
  nodes = λ v z. absurd z;
  guards = λ x z. absurd z;
}

module _ (spec : Spec) (range : IsInRange spec) (ok : IsAdequate spec) (placed : IsPlaced spec) (r : List Pairs) (i : IsRelation (all_columns spec) r) (h : Satisfies r spec.deps)
    (s : Pairs) (up : IsRising pair_cmp s) where
  -- what a Lock names
  lock_names : (c : ℕ) (choice : Which) (mode : Mode) (bs : List Pairs) (ns : List StripeLock) (columns : List ℕ) → c < length spec.classes
      → IsKeyBound spec c choice columns
      → ((b : Pairs) → In b bs → Within columns (cols_of b))
      → (b u : Pairs) → In b bs → Within (class_at spec c).cols (cols_of u) → Agree b u → In (physical_stripe spec c u) (stripes_of (gather stripe_lock_cmp (ns ++ named_by spec c choice mode bs)))
  lock_names c which.Keyed mode bs ns columns l k3 cs b u m v f =
      named_now (physical_stripe spec c u) ns mode (map (physical_stripe spec c) bs)
      (subst (λ z. In z (map (physical_stripe spec c) bs)) (physical_stripe-agreeing spec c b u (λ d q. cs b m d (k3 d q)) v f) (map_in (physical_stripe spec c) b bs m))
  lock_names c which.All mode bs ns columns l k3 cs b u m v f =
      named_now (physical_stripe spec c u) ns mode (stripes_locked spec c which.All bs) (physical_stripe-in_band spec placed c u l)

  -- a Lock keeps what is known of the search
  pub lock_keeps : (p : Progress) (bs : List Pairs) (ns : List StripeLock) (c : ℕ) (choice : Which) (mode : Mode) → IsSearching spec r s p bs ns
      → c < length spec.classes → KeepsK3 spec p (Lock c choice mode)
      → IsSearching spec r s (after spec p (Lock c choice mode)) bs (gather stripe_lock_cmp (ns ++ named_by spec c choice mode bs))
  lock_keeps p bs ns c choice mode f l k3 = record {
    phase = f.phase;
    within = f.within;
    reached = f.reached;
    rising = f.rising;
    columns = f.columns;
    nodes = f.nodes;
    guards = λ x m cover b u n v g. elim m [
      | inl e ↦ subst (λ (z : ℕ × Which). In (physical_stripe spec z.0 u) (stripes_of (gather stripe_lock_cmp (ns ++ named_by spec c choice mode bs)))) (sym e)
          (lock_names c choice mode bs ns p.columns l k3 f.columns b u n (subst (λ (z : ℕ × Which). Within (class_at spec z.0).cols (cols_of u)) e v) g)
      | inr q ↦ named_before (physical_stripe spec x.0 u) ns (named_by spec c choice mode bs) (f.guards x q cover b u n v g)
    ];
  }

  -- the columns of a row of an edge
  row_columns : (e : ℕ) → e < length spec.edges → (u : Pairs) → In u (tuples_of_edge e (all_rows spec r)) → Within (target_columns spec e) (cols_of u)
  row_columns e l u m c n =
      let q : (t : Pairs) × In t r × (u ≡ project (target_columns spec e) t) = (AreProjections-all_rows spec r e l).only u m in
      subst (λ z. In c (cols_of z)) (sym q.2) (cols_of-project (target_columns spec e) q.0 c n (subst (In c) (sym (i.each q.0 q.1).over) (target_within spec range e l c n)))

  -- a Read keeps it
  pub read_keeps : (p : Progress) (bs : List Pairs) (ns : List StripeLock) (e : ℕ) (mode : ReadMode) → IsSearching spec r s p bs ns
      → e < length spec.edges → KeepsK5 spec p (Read e mode)
      → IsSearching spec r s (after spec p (Read e mode)) (join bs (tuples_of_edge e (all_rows spec r))) ns
  read_keeps p bs ns e mode f l k5 = record {
    phase = f.phase;
    within = union_within p.visited (target_columns spec e) (all_columns spec) f.within (target_within spec range e l);
    reached = inr (reached_more (all_columns spec) (rising_range 0 (length spec.columns)) r i s up p.visited (target_columns spec e) bs (tuples_of_edge e (all_rows spec r)) f.reached (AreProjections-all_rows spec r e l)
        (lossless_holds spec range ok r i h p.visited (target_columns spec e) f.within (target_within spec range e l) k5.2));
    rising = rising_join bs (tuples_of_edge e (all_rows spec r));
    columns = λ c n d q.
        let j : IsJoined bs (tuples_of_edge e (all_rows spec r)) c = in_join bs (tuples_of_edge e (all_rows spec r)) c n in
        subst (λ z. In d (cols_of z)) (sym j.merged)
        (elim (in_union p.columns (target_columns spec e) d q) [
          | inl w ↦ cols_of-merge_left j.left j.right d (f.columns j.left j.in_left d w)
          | inr w ↦ cols_of-merge_right j.left j.right d (row_columns e l j.right j.in_right d w)
        ]);
    nodes = λ v n. elim n [
      | inl q ↦ subst (λ z. Within (bound spec z) (union p.columns (target_columns spec e))) (sym q) (union_right p.columns (target_columns spec e))
      | inr q ↦ λ c m. union_left p.columns (target_columns spec e) c (f.nodes v q c m)
    ];
    guards = λ x y cover c u n v g.
        let j : IsJoined bs (tuples_of_edge e (all_rows spec r)) c = in_join bs (tuples_of_edge e (all_rows spec r)) c n in
        f.guards x y cover j.left u j.in_left v (λ p q w z. g p q (subst (In p) (sym j.merged) (merge_left j.left j.right p w)) z);
  }

  -- the rows of stripes among which are those named are enough for a Read
  pub read_same : (p : Progress) (bs : List Pairs) (ns : List StripeLock) (stripes : List ℕ) (e : ℕ) (mode : ReadMode)
      → IsSearching spec r s p bs ns → e < length spec.edges → KeepsK3 spec p (Read e mode)
      → Within (stripes_of ns) stripes → join bs (tuples_of_edge e (rows_on spec r stripes)) ≡ join bs (tuples_of_edge e (all_rows spec r))
  read_same p bs ns stripes e mode f l k3 v =
      join_same bs (tuples_of_edge e (rows_on spec r stripes)) (tuples_of_edge e (all_rows spec r)) (edge_of_fragments spec r stripes e)
      (λ b u n q g. fragments_of_edge spec r stripes e u q
      (v (physical_stripe spec (class_of spec e) u)
      (f.guards (class_of spec e, k3.0) k3.1 k3.2 b u n (λ c z. row_columns e l u q c (striping_in_target spec ok placed e l c z)) (agree_from b u g))))
