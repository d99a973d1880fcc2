-- Laws of plans whose Locks come first, and of the rows of an edge that lie on the stripe of a tuple.
use Rattle.std.specs.Prelude.{◌≡◌, ℕ, zero, suc, ◌<◌, Bool, true, false, ◌||◌, List, [], ◌∷◌, cond, drop, get_or, is_some, length, take, ◌≤◌}
use Rattle.rc_plan.specs.Imports.{list_all, list_any, nat_cmp, In, IsRising, Within, rising_range, IsRelation, get_or_in, list_all_in, Pairs, cols_of, matches, project, Agree, same_from_test, Call, Op, OpKind, Query, Insert, Remove, Update, Mode, Spec, IsAdequate, all_columns, target_within, target_columns, EdgeRow, all_rows, fragment_of, fragments_in, in_fragments, in_tuples_of_edge, tuples_of_edge_in, IsInRange, class_at, class_of, IsPlaced, physical_stripe}
use Rattle.std.proofs.Common.{arith, inl, refl, sym, subst, ◌∙◌}
use Rattle.std.proofs.lemmas.List.{get_or-take, get_or_default, length-take-le, take-take}
use Rattle.std.proofs.lemmas.Bool.{false≢true}
use Rattle.rc_plan.specs.Access.{AreLate, IsLate, MayBeLate, is_given_lock, is_lock}
use Rattle.rc_plan.specs.declared.statement.ReadMode.{ReadMode}
use Rattle.rc_plan.specs.declared.statement.Statement.{Statement}
use Rattle.rc_plan.specs.declared.statement.Which.{Which}
use Rattle.rc_plan.specs.declared.statement.Which.TheVariants as which
use Rattle.rc_plan.specs.declared.statement.Statement.TheVariants.{Lock, Probe, Read, CheckAbsent, CheckFound, CheckDep, Apply, Emit, Commit, Release}
use Rattle.rc_plan.specs.Evaluation.{RunState, run, run_next, run_one, stripes_locked}
use Rattle.rc_plan.specs.MatchLaws.{matching_agrees}
use Rattle.rc_plan.specs.PlanRules.{IsKeyBound}
use Rattle.rc_plan.specs.RunLaws.{AreProjections-all_rows, cols_of-project, named-apply, named-check_absent, named-check_dep, named-emit, named-keep_least}
use Rattle.rc_plan.specs.StripeLocksLaws.{physical_stripe-agreeing, physical_stripe-in_band, striping_in_target}

-- ---- statements that are no Locks name no stripe

neither : (a b : Bool) → (a || b) ≡ false → (a ≡ false) × (b ≡ false)
neither true b e = absurd (false≢true (sym e))
neither false b e = (refl, e)

module _ (spec : Spec) (op : Op) (call : Call) where
  named-other : (state : RunState) (x : Statement) → is_lock x ≡ false → (run_one spec op call state x).named ≡ state.named
  named-other state (Lock c choice mode) e = absurd (false≢true (sym e))
  named-other state (Probe cols) e = refl
  named-other state (Read k mode) e = refl
  named-other state CheckAbsent e = named-check_absent spec op call state
  named-other state CheckFound e = named-keep_least state.bindings state
  named-other state (CheckDep dep) e = named-check_dep spec op call state dep
  named-other state Apply e = named-apply spec op.kind call.args state
  named-other state Emit e = named-emit spec.most_rows op.kind call.ranges state
  named-other state Commit e = refl
  named-other state (Release c) e = refl

  named-next : (state : RunState) (x : Statement) → is_lock x ≡ false → (run_next spec op call state x).named ≡ state.named
  named-next state x e = go (is_some state.reply)
    where
      go : (b : Bool) → (cond b state (run_one spec op call state x)).named ≡ state.named
      go true = refl
      go false = named-other state x e

  pub named-no_lock : (rest : List Statement) (state : RunState) → list_any is_lock rest ≡ false → (run spec op call rest state).named ≡ state.named
  named-no_lock [] state e = refl
  named-no_lock (x ∷ rest) state e =
      let parts = neither (is_lock x) (list_any is_lock rest) e in
      named-no_lock rest (run_next spec op call state x) parts.1 ∙ named-next state x parts.0

-- ---- the rows of an edge on the stripe on which a tuple falls

module _ (spec : Spec) (range : IsInRange spec) (ok : IsAdequate spec) (placed : IsPlaced spec) (r : List Pairs) (i : IsRelation (all_columns spec) r) (e : ℕ) (known : e < length spec.edges) where
  -- a row of the edge is a tuple's
  pub tuple_of_row : (stripe : ℕ) (u : Pairs) (n : ℕ) → In {A = EdgeRow} (e, u, n) (fragment_of spec r stripe) → (t : Pairs) × In t r × (u ≡ project (target_columns spec e) t)
  tuple_of_row stripe u n m =
      let w : EdgeRow = (e, u, n) in
      (AreProjections-all_rows spec r e known).only u (tuples_of_edge_in e (all_rows spec r) w (in_fragments spec r (stripe ∷ []) w m).0 refl)

  -- the columns of a tuple's row
  row_has : (t : Pairs) → In t r → Within (target_columns spec e) (cols_of (project (target_columns spec e) t))
  row_has t m c n = cols_of-project (target_columns spec e) t c n (subst (In c) (sym (i.each t m).over) (target_within spec range e known c n))

  -- the row of a tuple that matches s is on the stripe of s
  pub row_of_match : (s : Pairs) → Within (class_at spec (class_of spec e)).cols (cols_of s) → (t : Pairs) → In t r → matches s t ≡ true
      → (n : ℕ) × In {A = EdgeRow} (e, project (target_columns spec e) t, n) (fragment_of spec r (physical_stripe spec (class_of spec e) s))
  row_of_match s striped t m match =
      let u : Pairs = project (target_columns spec e) t in
      let stripe : ℕ = physical_stripe spec (class_of spec e) s in
      let q : (w : EdgeRow) × In w (all_rows spec r) × (w.0 ≡ e) × (u ≡ w.1) =
      in_tuples_of_edge e (all_rows spec r) u ((AreProjections-all_rows spec r e known).each t m) in
      let agree : Agree s u = matching_agrees (target_columns spec e) s t (subst (IsRising nat_cmp) (sym (i.each t m).over) (rising_range 0 (length spec.columns))) (same_from_test (project (cols_of s) t) s match) in
      let falls : physical_stripe spec (class_of spec e) u ≡ stripe =
      sym (physical_stripe-agreeing spec (class_of spec e) s u striped (λ c n. row_has t m c (striping_in_target spec ok placed e known c n)) agree) in
      let w : EdgeRow = (e, u, q.0.2) in
      let is : q.0 ≡ w = λ k. (q.2 k, sym q.3 k, q.0.2) in
      (q.0.2, fragments_in spec r (stripe ∷ []) w (subst (λ (z : EdgeRow). In z (all_rows spec r)) is q.1) (inl falls))

-- ---- the first Locks

-- a Lock that a tuple tells is a Lock
pub given_lock_locks : (spec : Spec) (cols : List ℕ) (x : Statement) → is_given_lock spec cols x ≡ true → ((c : ℕ) (choice : Which) (mode : Mode) → x ≡ Lock c choice mode → ⊥) → ⊥
given_lock_locks spec cols (Lock c choice mode) first n = n c choice mode refl
given_lock_locks spec cols (Probe others) first n = false≢true first
given_lock_locks spec cols (Read e mode) first n = false≢true first
given_lock_locks spec cols CheckAbsent first n = false≢true first
given_lock_locks spec cols CheckFound first n = false≢true first
given_lock_locks spec cols (CheckDep dep) first n = false≢true first
given_lock_locks spec cols Apply first n = false≢true first
given_lock_locks spec cols Emit first n = false≢true first
given_lock_locks spec cols Commit first n = false≢true first
given_lock_locks spec cols (Release c) first n = false≢true first

-- what chooses its stripe is bound where more columns are
pub key_bound_more : (spec : Spec) (c : ℕ) (choice : Which) (cols more : List ℕ) → Within cols more → IsKeyBound spec c choice cols → IsKeyBound spec c choice more
key_bound_more spec c which.Keyed cols more within bound = λ k m. within k (bound k m)
key_bound_more spec c which.All cols more within bound = bound

-- the tuple's stripe is among those that it takes where the tuple is the one binding
pub given_lock_falls : (spec : Spec) → IsPlaced spec → (c : ℕ) (choice : Which) (t : Pairs) → c < length spec.classes → In (physical_stripe spec c t) (stripes_locked spec c choice (t ∷ []))
given_lock_falls spec placed c which.Keyed t l = inl refl
given_lock_falls spec placed c which.All t l = physical_stripe-in_band spec placed c t l

-- each of the first statements passes the test of all
pub first_at : (f : Statement → Bool) (plan : List Statement) (n at : ℕ) (d : Statement) → n ≤ length plan → list_all f (take n plan) ≡ true → at < n → f (get_or plan at d) ≡ true
first_at f plan n at d within all l =
    let long : length (take n plan) ≡ n = length-take-le n plan within in
    list_all_in f (take n plan) all (get_or plan at d) (subst (λ z. In z (take n plan)) (get_or-take n plan at d l) (get_or_in (take n plan) at d (omega (arith, l, long))))

-- ---- late statements

-- an operation that is no remove has no Lock behind its first ones
pub none_late : (kind : OpKind) → (kind ≡ Remove → ⊥) → (e late : ℕ) (xs : List Statement) → MayBeLate kind e (take late xs) → list_any is_lock (drop late xs) ≡ false → list_any is_lock xs ≡ false
none_late kind other e zero xs may none = none
none_late kind other e (suc late) [] may none = refl
none_late (Query outs ranges) other e (suc late) (x ∷ xs) may none = absurd (let f : x ∷ take late xs ≡ [] = may in cc)
none_late Insert other e (suc late) (x ∷ xs) may none = absurd (let f : x ∷ take late xs ≡ [] = may in cc)
none_late Remove other e (suc late) (x ∷ xs) may none = absurd (other refl)
none_late Update other e (suc late) (x ∷ xs) may none = absurd (let f : x ∷ take late xs ≡ [] = may in cc)

-- the statement with this number is late
pub late_at : (e late : ℕ) (xs : List Statement) → late ≤ length xs → AreLate e (take late xs) → (n : ℕ) (d : Statement) → n < late → IsLate e (take n xs) (get_or xs n d)
late_at e late xs within are n d l =
    let long : length (take late xs) ≡ late = length-take-le late xs within in
    subst (IsLate e (take n xs)) (get_or-take late xs n Commit l ∙ get_or_default xs n Commit d (omega (arith, l, within)))
    (subst (λ (before : List Statement). IsLate e before (get_or (take late xs) n Commit)) (take-take n late xs (omega (arith, l))) (are n (omega (arith, l, long))))

-- a late statement that is no Lock is a Read
pub late_read : (e : ℕ) (before : List Statement) (x : Statement) → IsLate e before x → ((c : ℕ) (choice : Which) (mode : Mode) → x ≡ Lock c choice mode → ⊥) → (k : ℕ) × (mode : ReadMode) × (x ≡ Read k mode)
late_read e before (Lock c choice mode) late n = absurd (n c choice mode refl)
late_read e before (Probe cols) late n = absurd late
late_read e before (Read k mode) late n = (k, mode, refl)
late_read e before CheckAbsent late n = absurd late
late_read e before CheckFound late n = absurd late
late_read e before (CheckDep dep) late n = absurd late
late_read e before Apply late n = absurd late
late_read e before Emit late n = absurd late
late_read e before Commit late n = absurd late
late_read e before (Release c) late n = absurd late
