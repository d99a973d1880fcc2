-- Laws of the stripes that a plan names, whatever the rows: they are its Locks', and the arguments' where these choose them.
use Rattle.std.specs.Prelude.{◌≡◌, ℕ, Bool, true, false, List, [], ◌∷◌, ◌++◌, ◌⊎◌, Option, None, Some, cond, is_some}
use Rattle.rc_plan.specs.Imports.{nat_cmp, Within, value_in, In, IsRising, in_gather, in_append, in_map, map_in, Pairs, cols_of, value, agrees, merge, agree_from, in_merge, merge_left, one_pair, Call, Present, Conflict, Op, OpKind, Query, Insert, Remove, Update, Range, Spec, tuples_of_edge, IsJoined, in_join, class_at, no_op, op_at, IsPlaced, physical_stripe, stripe_by_values, StripeLock}
use Rattle.std.proofs.Common.{inl, inr, refl, sym, ap, subst, ◌∙◌}
use Rattle.std.proofs.lemmas.Option.{get_or_from_slice_get}
use Rattle.rc_plan.specs.declared.statement.Statement.{Statement}
use Rattle.rc_plan.specs.declared.statement.Statement.TheVariants.{Lock, Probe, Read, CheckAbsent, CheckFound, CheckDep, Apply, Emit, Commit, Release}
use Rattle.rc_plan.specs.declared.statement.Which.{Which}
use Rattle.rc_plan.specs.declared.statement.Which.TheVariants as which
use Rattle.rc_plan.specs.Evaluation.{RunState, stripes_locked, named_by, some_left, some_differs, remove_least, keep_least, replace, apply, emit, run_one, run_next, run, begun}
use Rattle.rc_plan.specs.Laws.{NamedStripesAreLocked}
use Rattle.rc_plan.specs.LockOrderLaws.{IsOfClass-stripes_locked}
use Rattle.rc_plan.specs.NamedStripes.{IsNamedBy}
use Rattle.rc_plan.specs.PlanRules.{Progress, at_start, after, IsKnown, AreKnown, KeepsAll, KeepsFrom, KeepsPlanRules}
use Rattle.rc_plan.specs.RunLaws.{named-apply, named-emit, named-keep_least, named-check_absent, named-check_dep}
use Rattle.rc_plan.specs.StripeLocks.{stripe_lock_cmp}
use Rattle.rc_plan.specs.StripeLocksLaws.{stripe_lock_order}

-- ---- bindings go on from the arguments

-- the binding has the arguments' values, and no other at their columns
record IsExtended (args b : Pairs) : Type 0 where
  pub all : (p : ℕ × ℕ) → In p args → In p b
  pub only : (p : ℕ × ℕ) → In p b → In p.0 (cols_of args) → In p args

abbrev AreExtended : Pairs → List Pairs → Type 0
AreExtended args bs = (b : Pairs) → In b bs → IsExtended args b

extended_itself : (args : Pairs) → IsExtended args args
extended_itself args = record { all = λ p m. m; only = λ p m k. m }

extended_merge : (args b u : Pairs) → agrees b u ≡ true → IsExtended args b → IsExtended args (merge b u)
extended_merge args b u e f = record {
  all = λ p m. merge_left b u p (f.all p m);
  only = λ p m k. elim (in_merge b u p m) [
    | inl x ↦ f.only p x k
    | inr y ↦ (let q : (q : ℕ × ℕ) × In q args × (p.0 ≡ q.0) = in_map (λ (q : ℕ × ℕ). q.0) p.0 args k in
        subst (λ z. In z args) (agree_from b u e q.0 p (f.all q.0 q.1) y (sym q.2)) q.1)
  ];
}

same_values : (args b : Pairs) → IsRising nat_cmp (cols_of args) → IsExtended args b → (k : ℕ) → In k (cols_of args) → value b k ≡ value args k
same_values args b rises f k m =
    let p : In (k, value args k) args = value_in args k m in
    let n : In k (cols_of b) = map_in (λ (q : ℕ × ℕ). q.0) (k, value args k) b (f.all (k, value args k) p) in
    let q : In (k, value b k) args = f.only (k, value b k) (value_in b k n) m in
    ap (λ (w : ℕ × ℕ). w.1) (one_pair args rises (k, value b k) (k, value args k) q p refl)

-- ---- what a Lock names

named_keyed : (spec : Spec) (args : Pairs) → IsRising nat_cmp (cols_of args) → (c : ℕ) (choice : Which) (bs : List Pairs) → AreExtended args bs
    → (stripe : ℕ) → In stripe (stripes_locked spec c choice bs)
    → choice ≡ which.Keyed → Within (class_at spec c).cols (cols_of args) → stripe ≡ physical_stripe spec c args
named_keyed spec args rises c which.Keyed bs f stripe m e w =
    let q : (b : Pairs) × In b bs × (stripe ≡ physical_stripe spec c b) = in_map (physical_stripe spec c) stripe bs m in
    q.2 ∙ stripe_by_values spec c q.0 args (λ k n. same_values args q.0 rises (f q.0 q.1) k (w k n))
named_keyed spec args rises c which.All bs f stripe m e w = absurd (let g : which.All ≡ which.Keyed = e in cc)

-- ---- bindings of statements

bindings-remove_least : (spec : Spec) (bs : List Pairs) (state : RunState) → (remove_least spec bs state).bindings ≡ state.bindings
bindings-remove_least spec [] state = refl
bindings-remove_least spec (b ∷ bs) state = refl

bindings-keep_least : (bs : List Pairs) (state : RunState) → (keep_least bs state).bindings ≡ state.bindings
bindings-keep_least [] state = refl
bindings-keep_least (b ∷ bs) state = refl

bindings-replace : (spec : Spec) (old : Option Pairs) (args : Pairs) (state : RunState) → (replace spec old args state).bindings ≡ state.bindings
bindings-replace spec None args state = refl
bindings-replace spec (Some old) args state = refl

bindings-apply : (spec : Spec) (kind : OpKind) (args : Pairs) (state : RunState) → (apply spec kind args state).bindings ≡ state.bindings
bindings-apply spec (Query outs ranges) args state = refl
bindings-apply spec Insert args state = refl
bindings-apply spec Remove args state = bindings-remove_least spec state.bindings state
bindings-apply spec Update args state = bindings-replace spec state.old args state

bindings-emit : (most : ℕ) (kind : OpKind) (ranges : List Range) (state : RunState) → (emit most kind ranges state).bindings ≡ state.bindings
bindings-emit most (Query outs cols) ranges state = refl
bindings-emit most Insert ranges state = refl
bindings-emit most Remove ranges state = refl
bindings-emit most Update ranges state = refl

bindings-either : (b : Bool) (x y : RunState) → x.bindings ≡ y.bindings → (cond b x y).bindings ≡ y.bindings
bindings-either true x y e = e
bindings-either false x y e = refl

probe_before : (spec : Spec) (p : Progress) (x : Statement) → (after spec p x).probe ≡ None → p.probe ≡ None
probe_before spec p (Lock c choice mode) e = e
probe_before spec p (Probe cols) e = absurd (let g : Some cols ≡ None = e in cc)
probe_before spec p (Read n mode) e = e
probe_before spec p CheckAbsent e = e
probe_before spec p CheckFound e = e
probe_before spec p (CheckDep dep) e = e
probe_before spec p Apply e = e
probe_before spec p Emit e = e
probe_before spec p Commit e = e
probe_before spec p (Release c) e = e

module _ (spec : Spec) (placed : IsPlaced spec) (op : Op) (call : Call) (rises : IsRising nat_cmp (cols_of call.args)) where
  abbrev args : Pairs
  args = call.args

  extended_one : (p : Progress) (x : Statement) (state : RunState) → AreExtended args state.bindings → (after spec p x).probe ≡ None
      → AreExtended args (run_one spec op call state x).bindings
  extended_one p (Lock c choice mode) state f n = f
  extended_one p (Probe cols) state f n = absurd (let g : Some cols ≡ None = n in cc)
  extended_one p (Read e mode) state f n = λ c m.
      let j : IsJoined state.bindings (tuples_of_edge e state.rows) c = in_join state.bindings (tuples_of_edge e state.rows) c m in
      subst (IsExtended args) (sym j.merged) (extended_merge args j.left j.right j.agree (f j.left j.in_left))
  extended_one p CheckAbsent state f n = subst (AreExtended args) (sym (bindings-either (some_left state.bindings) (record state { reply = Some Present }) state refl)) f
  extended_one p CheckFound state f n = subst (AreExtended args) (sym (bindings-keep_least state.bindings state)) f
  extended_one p (CheckDep dep) state f n = subst (AreExtended args) (sym (bindings-either (some_differs spec op dep args state.bindings) (record state { reply = Some (Conflict dep) }) state refl)) f
  extended_one p Apply state f n = subst (AreExtended args) (sym (bindings-apply spec op.kind args state)) f
  extended_one p Emit state f n = subst (AreExtended args) (sym (bindings-emit spec.most_rows op.kind call.ranges state)) f
  extended_one p Commit state f n = f
  extended_one p (Release c) state f n = f

  extended_next : (p : Progress) (x : Statement) (state : RunState) → (p.probe ≡ None → AreExtended args state.bindings)
      → (after spec p x).probe ≡ None → AreExtended args (run_next spec op call state x).bindings
  extended_next p x state f n = go (is_some state.reply)
    where
      go : (b : Bool) → AreExtended args (cond b state (run_one spec op call state x)).bindings
      go true = f (probe_before spec p x n)
      go false = extended_one p x state (f (probe_before spec p x n)) n

  named_later : (x : Statement) (plan : List Statement) (lock : StripeLock) → IsNamedBy spec args plan lock → IsNamedBy spec args (x ∷ plan) lock
  named_later x plan lock n = record { class = n.class; choice = n.choice; locks = inr n.locks; of_class = n.of_class; by_arguments = n.by_arguments }

  named_one : (p : Progress) (x : Statement) (plan : List Statement) (state : RunState) → IsKnown spec x → KeepsAll spec op p x
      → (p.probe ≡ None → AreExtended args state.bindings)
      → (lock : StripeLock) → In lock (run_one spec op call state x).named → In lock state.named ⊎ IsNamedBy spec args (x ∷ plan) lock
  named_one p (Lock c choice mode) plan state known keeps f lock m =
      let more : List StripeLock = named_by spec c choice mode state.bindings in
      elim (in_append lock state.named more (in_gather stripe_lock_cmp stripe_lock_order lock (state.named ++ more) m)) [
        | inl n ↦ inl n
        | inr n ↦ (let s : (s : ℕ) × In s (stripes_locked spec c choice state.bindings) × (lock ≡ (s, mode)) = in_map (λ s. (s, mode)) lock (stripes_locked spec c choice state.bindings) n in
            let here : IsNamedBy spec args (Lock c choice mode ∷ plan) (s.0, mode) = record {
              class = c;
              choice = choice;
              locks = inl refl;
              of_class = IsOfClass-stripes_locked spec placed c choice state.bindings known s.0 s.1;
              by_arguments = named_keyed spec args rises c choice state.bindings (f keeps.k1.1) s.0 s.1;
            } in
            inr (subst (λ (l : StripeLock). IsNamedBy spec args (Lock c choice mode ∷ plan) l) (sym s.2) here))
      ]
  named_one p (Probe cols) plan state known keeps f lock m = inl m
  named_one p (Read e mode) plan state known keeps f lock m = inl m
  named_one p CheckAbsent plan state known keeps f lock m = inl (subst (In lock) (named-check_absent spec op call state) m)
  named_one p CheckFound plan state known keeps f lock m = inl (subst (In lock) (named-keep_least state.bindings state) m)
  named_one p (CheckDep dep) plan state known keeps f lock m = inl (subst (In lock) (named-check_dep spec op call state dep) m)
  named_one p Apply plan state known keeps f lock m = inl (subst (In lock) (named-apply spec op.kind args state) m)
  named_one p Emit plan state known keeps f lock m = inl (subst (In lock) (named-emit spec.most_rows op.kind call.ranges state) m)
  named_one p Commit plan state known keeps f lock m = inl m
  named_one p (Release c) plan state known keeps f lock m = inl m

  named_next : (p : Progress) (x : Statement) (plan : List Statement) (state : RunState) → IsKnown spec x → KeepsAll spec op p x
      → (p.probe ≡ None → AreExtended args state.bindings)
      → (lock : StripeLock) → In lock (run_next spec op call state x).named → In lock state.named ⊎ IsNamedBy spec args (x ∷ plan) lock
  named_next p x plan state known keeps f lock m = go (is_some state.reply) m
    where
      go : (b : Bool) → In lock (cond b state (run_one spec op call state x)).named → In lock state.named ⊎ IsNamedBy spec args (x ∷ plan) lock
      go true h = inl h
      go false h = named_one p x plan state known keeps f lock h

  named_run : (plan : List Statement) (p : Progress) (state : RunState) → AreKnown spec plan → KeepsFrom spec op p plan
      → (p.probe ≡ None → AreExtended args state.bindings)
      → (lock : StripeLock) → In lock (run spec op call plan state).named → In lock state.named ⊎ IsNamedBy spec args plan lock
  named_run [] p state known keeps f lock m = inl m
  named_run (x ∷ plan) p state known keeps f lock m =
      elim (named_run plan (after spec p x) (run_next spec op call state x) (λ y k. known y (inr k)) keeps.1 (extended_next p x state f) lock m) [
        | inl n ↦ named_next p x plan state (known x (inl refl)) keeps.0 f lock n
        | inr n ↦ inr (named_later x plan lock n)
      ]

pub named_law : NamedStripesAreLocked
named_law spec placed call op fits plan known keeps rows lock m =
    let is : op_at spec call.op ≡ op = get_or_from_slice_get spec.ops call.op op no_op fits.known in
    let rules : KeepsPlanRules spec (op_at spec call.op) plan = subst (λ (o : Op). KeepsPlanRules spec o plan) (sym is) keeps in
    elim (named_run spec placed (op_at spec call.op) call fits.tuple.rising plan (at_start spec (op_at spec call.op)) (begun call rows) known rules
    (λ e b n. elim n [ inl q ↦ subst (IsExtended call.args) (sym q) (extended_itself call.args) | inr z ↦ absurd z ]) lock m) [
      | inl z ↦ absurd z
      | inr n ↦ n
    ]
