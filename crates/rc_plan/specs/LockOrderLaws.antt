-- Laws of the order of locks in accepted plans: stripes are named rising, and after a Read none is named on which a row of its edge falls. So a machine that reads while it locks finds what evaluation finds in all rows taken.
use Rattle.std.specs.Prelude.{◌≡◌, ℕ, zero, suc, ◌+◌, ◌<◌, ◌≤◌, ◌==◌, Bool, true, false, List, [], ◌∷◌, ◌++◌, Some, cond, filter, map, length, is_some, take, drop}
use Rattle.rc_plan.specs.Imports.{slice_get, In, gather, in_gather, in_map, in_append, has_in, slice_get_in, has, Pairs, Call, Op, Mode, Spec, EdgeRow, tuples_of_edge, row_stripe, on_stripes, class_at, class_of, IsPlaced, class_of_known, band_start, physical_stripe, band_before, StripeLock}
use Rattle.std.proofs.Common.{inl, inr, refl, sym, ap, subst, ◌∙◌, arith}
use Rattle.std.proofs.lemmas.Bool.{false≢true, eqb-true}
use Rattle.std.proofs.lemmas.List.{drop_more}
use Rattle.std.proofs.lemmas.Option.{get_or_from_slice_get, slice_get_within}
use Rattle.rc_plan.specs.declared.statement.Statement.{Statement}
use Rattle.rc_plan.specs.declared.statement.Statement.TheVariants.{Lock, Probe, Read, CheckAbsent, CheckFound, CheckDep, Apply, Emit, Commit, Release}
use Rattle.rc_plan.specs.declared.statement.Which.{Which}
use Rattle.rc_plan.specs.declared.statement.Which.TheVariants as which
use Rattle.rc_plan.specs.Evaluation.{RunState, stripes_locked, named_by, run_one, run_next, run, begun}
use Rattle.rc_plan.specs.Laws.{LocksRise, ReadsAreEarly}
use Rattle.rc_plan.specs.PlanRules.{Progress, at_start, after, IsKnown, AreKnown, IsLocked, KeepsAll, KeepsFrom}
use Rattle.rc_plan.specs.PlanRulesLaws.{progress_from, keeps_drop}
use Rattle.rc_plan.specs.RunLaws.{named-apply, named-emit, named-keep_least, named-check_absent, named-check_dep, run-split}
use Rattle.rc_plan.specs.StripeLocks.{stripe_lock_cmp, stripes_of, IsOfClass}
use Rattle.rc_plan.specs.StripeLocksLaws.{stripe_lock_order, in_stripes_of, stripes_of_in, IsOfClass-physical_stripe, band_of_class, of_one_class}
use Rattle.rc_plan.specs.NamedStripes.{AreOfLocked}

-- ---- lists from a place on

drop_at : {A : Type 0} (xs : List A) (n : ℕ) (x : A) → slice_get xs n ≡ Some x → drop n xs ≡ x ∷ drop (n + 1) xs
drop_at xs n x e = drop_more xs n x (slice_get_within xs n x e) ∙ ap (λ y. y ∷ drop (n + 1) xs) (get_or_from_slice_get xs n x x e)

-- ---- bands

pub IsOfClass-stripes_locked : (spec : Spec) → IsPlaced spec → (c : ℕ) (choice : Which) (bs : List Pairs) → c < length spec.classes → (stripe : ℕ)
    → In stripe (stripes_locked spec c choice bs) → IsOfClass spec stripe c
IsOfClass-stripes_locked spec placed c which.Keyed bs l stripe m =
    let q : (b : Pairs) × In b bs × (stripe ≡ physical_stripe spec c b) = in_map (physical_stripe spec c) stripe bs m in
    subst (λ z. IsOfClass spec z c) (sym q.2) (IsOfClass-physical_stripe spec placed c q.0 l)
IsOfClass-stripes_locked spec placed c which.All bs l stripe m =
    (band_of_class spec stripe c).0 m

-- ---- what is locked later

-- a Lock is of a later class
abbrev pub LocksAfter : ℕ → Statement → Type 0
LocksAfter c (Lock d choice mode) = c < d
LocksAfter c _ = Unit {0}

keeps_order : (spec : Spec) (op : Op) (p : Progress) (x : Statement) (c : ℕ) → IsLocked p c → KeepsAll spec op p x → LocksAfter c x
keeps_order spec op p (Lock d choice mode) c locked keeps = keeps.k2 (c, locked.0) locked.1
keeps_order spec op p (Probe cols) c locked keeps = tt
keeps_order spec op p (Read e mode) c locked keeps = tt
keeps_order spec op p CheckAbsent c locked keeps = tt
keeps_order spec op p CheckFound c locked keeps = tt
keeps_order spec op p (CheckDep dep) c locked keeps = tt
keeps_order spec op p Apply c locked keeps = tt
keeps_order spec op p Emit c locked keeps = tt
keeps_order spec op p Commit c locked keeps = tt
keeps_order spec op p (Release d) c locked keeps = tt

still_locked : (spec : Spec) (p : Progress) (x : Statement) (c : ℕ) → IsLocked p c → IsLocked (after spec p x) c
still_locked spec p (Lock d choice mode) c locked = (locked.0, inr locked.1)
still_locked spec p (Probe cols) c locked = locked
still_locked spec p (Read e mode) c locked = locked
still_locked spec p CheckAbsent c locked = locked
still_locked spec p CheckFound c locked = locked
still_locked spec p (CheckDep dep) c locked = locked
still_locked spec p Apply c locked = locked
still_locked spec p Emit c locked = locked
still_locked spec p Commit c locked = locked
still_locked spec p (Release d) c locked = locked

module _ (spec : Spec) (placed : IsPlaced spec) (op : Op) (call : Call) where
  -- a stripe of the class that a statement leaves named was named before it
  before_lock : (c stripe d : ℕ) (choice : Which) (state : RunState) (mode : Mode) → IsOfClass spec stripe c → c < d → d < length spec.classes
      → In stripe (stripes_of (gather stripe_lock_cmp (state.named ++ named_by spec d choice mode state.bindings))) → In stripe (stripes_of state.named)
  before_lock c stripe d choice state mode of later known m =
      let all : List StripeLock = state.named ++ named_by spec d choice mode state.bindings in
      let q : (lock : StripeLock) × In lock (gather stripe_lock_cmp all) × (stripe ≡ lock.0) = in_stripes_of stripe (gather stripe_lock_cmp all) m in
      elim (in_append q.0 state.named (named_by spec d choice mode state.bindings) (in_gather stripe_lock_cmp stripe_lock_order q.0 all q.1)) [
        | inl n ↦ subst (λ z. In z (stripes_of state.named)) (sym q.2) (stripes_of_in q.0 state.named n)
        | inr n ↦ (let s : (s : ℕ) × In s (stripes_locked spec d choice state.bindings) × (q.0 ≡ (s, mode)) = in_map (λ s. (s, mode)) q.0 (stripes_locked spec d choice state.bindings) n in
            let is : stripe ≡ s.0 = q.2 ∙ ap (λ (l : StripeLock). l.0) s.2 in
            absurd (of_one_class spec c d stripe later known of (subst (λ z. IsOfClass spec z d) (sym is) (IsOfClass-stripes_locked spec placed d choice state.bindings known s.0 s.1))))
      ]

  before_one : (c stripe : ℕ) (x : Statement) (state : RunState) → IsOfClass spec stripe c → LocksAfter c x → IsKnown spec x
      → In stripe (stripes_of (run_one spec op call state x).named) → In stripe (stripes_of state.named)
  before_one c stripe (Lock d choice mode) state of later known m = before_lock c stripe d choice state mode of later known m
  before_one c stripe (Probe cols) state of later known m = m
  before_one c stripe (Read e mode) state of later known m = m
  before_one c stripe CheckAbsent state of later known m = subst (λ z. In stripe (stripes_of z)) (named-check_absent spec op call state) m
  before_one c stripe CheckFound state of later known m = subst (λ z. In stripe (stripes_of z)) (named-keep_least state.bindings state) m
  before_one c stripe (CheckDep dep) state of later known m = subst (λ z. In stripe (stripes_of z)) (named-check_dep spec op call state dep) m
  before_one c stripe Apply state of later known m = subst (λ z. In stripe (stripes_of z)) (named-apply spec op.kind call.args state) m
  before_one c stripe Emit state of later known m = subst (λ z. In stripe (stripes_of z)) (named-emit spec.most_rows op.kind call.ranges state) m
  before_one c stripe Commit state of later known m = m
  before_one c stripe (Release d) state of later known m = m

  before_next : (c stripe : ℕ) (x : Statement) (state : RunState) → IsOfClass spec stripe c → LocksAfter c x → IsKnown spec x
      → In stripe (stripes_of (run_next spec op call state x).named) → In stripe (stripes_of state.named)
  before_next c stripe x state of later known m = go (is_some state.reply) m
    where
      go : (b : Bool) → In stripe (stripes_of (cond b state (run_one spec op call state x)).named) → In stripe (stripes_of state.named)
      go true h = h
      go false h = before_one c stripe x state of later known h

  -- once a class is locked, no further stripe of it is named
  pub class_is_locked_once : (plan : List Statement) (p : Progress) (state : RunState) (c stripe : ℕ) → IsOfClass spec stripe c → IsLocked p c
      → AreKnown spec plan → KeepsFrom spec op p plan
      → In stripe (stripes_of (run spec op call plan state).named) → In stripe (stripes_of state.named)
  class_is_locked_once [] p state c stripe of locked known keeps m = m
  class_is_locked_once (x ∷ plan) p state c stripe of locked known keeps m =
      before_next c stripe x state of (keeps_order spec op p x c locked keeps.0) (known x (inl refl))
      (class_is_locked_once plan (after spec p x) (run_next spec op call state x) c stripe of (still_locked spec p x c locked) (λ y n. known y (inr n)) keeps.1 m)

-- ---- stripes are named rising

module _ (spec : Spec) (placed : IsPlaced spec) (op : Op) (call : Call) where
  pub of_locked_one : (p : Progress) (x : Statement) (state : RunState) → IsKnown spec x → AreOfLocked spec p state.named
      → AreOfLocked spec (after spec p x) (run_one spec op call state x).named
  of_locked_one p (Lock d choice mode) state known f stripe m =
      let all : List StripeLock = state.named ++ named_by spec d choice mode state.bindings in
      let q : (lock : StripeLock) × In lock (gather stripe_lock_cmp all) × (stripe ≡ lock.0) = in_stripes_of stripe (gather stripe_lock_cmp all) m in
      elim (in_append q.0 state.named (named_by spec d choice mode state.bindings) (in_gather stripe_lock_cmp stripe_lock_order q.0 all q.1)) [
        | inl n ↦ (let g : (c : ℕ) × IsLocked p c × IsOfClass spec stripe c = f stripe (subst (λ z. In z (stripes_of state.named)) (sym q.2) (stripes_of_in q.0 state.named n)) in
            (g.0, still_locked spec p (Lock d choice mode) g.0 g.1, g.2))
        | inr n ↦ (let s : (s : ℕ) × In s (stripes_locked spec d choice state.bindings) × (q.0 ≡ (s, mode)) = in_map (λ s. (s, mode)) q.0 (stripes_locked spec d choice state.bindings) n in
            let is : stripe ≡ s.0 = q.2 ∙ ap (λ (l : StripeLock). l.0) s.2 in
            (d, (choice, inl refl), subst (λ z. IsOfClass spec z d) (sym is) (IsOfClass-stripes_locked spec placed d choice state.bindings known s.0 s.1)))
      ]
  of_locked_one p (Probe cols) state known f stripe m = f stripe m
  of_locked_one p (Read e mode) state known f stripe m = f stripe m
  of_locked_one p CheckAbsent state known f stripe m = f stripe (subst (λ z. In stripe (stripes_of z)) (named-check_absent spec op call state) m)
  of_locked_one p CheckFound state known f stripe m = f stripe (subst (λ z. In stripe (stripes_of z)) (named-keep_least state.bindings state) m)
  of_locked_one p (CheckDep dep) state known f stripe m = f stripe (subst (λ z. In stripe (stripes_of z)) (named-check_dep spec op call state dep) m)
  of_locked_one p Apply state known f stripe m = f stripe (subst (λ z. In stripe (stripes_of z)) (named-apply spec op.kind call.args state) m)
  of_locked_one p Emit state known f stripe m = f stripe (subst (λ z. In stripe (stripes_of z)) (named-emit spec.most_rows op.kind call.ranges state) m)
  of_locked_one p Commit state known f stripe m = f stripe m
  of_locked_one p (Release d) state known f stripe m = f stripe m

  of_locked_next : (p : Progress) (x : Statement) (state : RunState) → IsKnown spec x → AreOfLocked spec p state.named
      → AreOfLocked spec (after spec p x) (run_next spec op call state x).named
  of_locked_next p x state known f = go (is_some state.reply)
    where
      go : (b : Bool) → AreOfLocked spec (after spec p x) (cond b state (run_one spec op call state x)).named
      go true stripe m = let g : (c : ℕ) × IsLocked p c × IsOfClass spec stripe c = f stripe m in (g.0, still_locked spec p x g.0 g.1, g.2)
      go false stripe m = of_locked_one p x state known f stripe m

  -- so after the first statements too
  pub of_locked : (plan : List Statement) (n : ℕ) (p : Progress) (state : RunState) → AreKnown spec plan → AreOfLocked spec p state.named
      → AreOfLocked spec (progress_from spec p plan n) (run spec op call (take n plan) state).named
  of_locked plan zero p state known f = f
  of_locked [] (suc n) p state known f = f
  of_locked (x ∷ plan) (suc n) p state known f = of_locked plan n (after spec p x) (run_next spec op call state x) (λ y m. known y (inr m)) (of_locked_next p x state (known x (inl refl)) f)

pub rising_law : LocksRise
rising_law spec placed op plan known keeps n c choice mode at call taken before stripe m k =
    let l : n ≤ length plan = let j : n < length plan = slice_get_within plan n (Lock c choice mode) at in omega arith in
    let p : Progress = progress_from spec (at_start spec op) plan n in
    let st : RunState = run spec op call (take n plan) (begun call taken) in
    let split : drop n plan ≡ Lock c choice mode ∷ drop (n + 1) plan = drop_at plan n (Lock c choice mode) at in
    let here : KeepsAll spec op p (Lock c choice mode) = (subst (KeepsFrom spec op p) split (keeps_drop spec op (at_start spec op) plan n keeps l)).0 in
    let class : c < length spec.classes = known (Lock c choice mode) (slice_get_in plan n (Lock c choice mode) at) in
    let g : (d : ℕ) × IsLocked p d × IsOfClass spec before d = of_locked spec placed op call plan n (at_start spec op) (begun call taken) known (λ s z. absurd z) before m in
    let d_before : g.0 < c = here.k2 (g.0, g.1.0) g.1.1 in
    let bands : band_start spec g.0 + (class_at spec g.0).stripes ≤ band_start spec c = band_before spec g.0 c d_before class in
    let now : IsOfClass spec stripe c = IsOfClass-stripes_locked spec placed c choice st.bindings class stripe k in
    omega (arith, g.2.before, bands, now.from)

-- ---- rows of the edge

-- of the rows of an edge, those on some stripes are all where each of its rows falls on one of them
edge_on_stripes : (spec : Spec) (e : ℕ) (stripes : List ℕ) (rows : List EdgeRow) → ((row : EdgeRow) → In row rows → row.0 ≡ e → In (row_stripe spec row) stripes)
    → tuples_of_edge e (on_stripes spec stripes rows) ≡ tuples_of_edge e rows
edge_on_stripes spec e stripes [] f = refl
edge_on_stripes spec e stripes (row ∷ rows) f = go (row.0 == e) (has stripes (row_stripe spec row)) refl refl (edge_on_stripes spec e stripes rows (λ w m. f w (inr m)))
  where
    tuples : List EdgeRow → List Pairs
    tuples ws = map (λ w. w.1) ws

    here : EdgeRow → Bool
    here w = w.0 == e

    go : (a b : Bool) → (row.0 == e) ≡ a → has stripes (row_stripe spec row) ≡ b → tuples_of_edge e (on_stripes spec stripes rows) ≡ tuples_of_edge e rows
        → tuples (filter here (cond b (row ∷ on_stripes spec stripes rows) (on_stripes spec stripes rows))) ≡ tuples (cond a (row ∷ filter here rows) (filter here rows))
    go true true g h ih = ap (λ z. tuples (cond z (row ∷ filter here (on_stripes spec stripes rows)) (filter here (on_stripes spec stripes rows)))) g ∙ ap (λ l. row.1 ∷ l) ih
    go true false g h ih = absurd (false≢true (sym h ∙ has_in stripes (row_stripe spec row) (f row (inl refl) (eqb-true row.0 e g))))
    go false true g h ih = ap (λ z. tuples (cond z (row ∷ filter here (on_stripes spec stripes rows)) (filter here (on_stripes spec stripes rows)))) g ∙ ih
    go false false g h ih = ih

drop_in : {A : Type 0} (x : A) (xs : List A) (n : ℕ) → In x (drop n xs) → In x xs
drop_in x xs zero m = m
drop_in x [] (suc n) m = m
drop_in x (y ∷ xs) (suc n) m = inr (drop_in x xs n m)

pub early_law : ReadsAreEarly
early_law spec range placed op plan known keeps n e mode at call taken rows on =
    let l : n ≤ length plan = let k : n < length plan = slice_get_within plan n (Read e mode) at in omega arith in
    let p : Progress = progress_from spec (at_start spec op) plan n in
    let st : RunState = run spec op call (take n plan) (begun call taken) in
    let rest : KeepsFrom spec op p (drop n plan) = keeps_drop spec op (at_start spec op) plan n keeps l in
    let split : drop n plan ≡ Read e mode ∷ drop (n + 1) plan = drop_at plan n (Read e mode) at in
    let here : KeepsAll spec op p (Read e mode) = (subst (KeepsFrom spec op p) split rest).0 in
    let small : e < length spec.edges = known (Read e mode) (slice_get_in plan n (Read e mode) at) in
    let class : class_of spec e < length spec.classes = class_of_known spec e range (placed.p1 e small) in
    let locked : IsLocked p (class_of spec e) = (here.k3.0, here.k3.1) in
    edge_on_stripes spec e (stripes_of st.named) rows (λ row m is.
    class_is_locked_once spec placed op call (drop n plan) p st (class_of spec e) (row_stripe spec row)
    (subst (λ z. IsOfClass spec (physical_stripe spec (class_of spec z) row.1) (class_of spec e)) (sym is) (IsOfClass-physical_stripe spec placed (class_of spec e) row.1 class))
    locked (λ x k. known x (drop_in x plan n k)) rest
    (subst (λ (z : RunState). In (row_stripe spec row) (stripes_of z.named)) (run-split spec op call plan n (begun call taken)) (on row m)))
