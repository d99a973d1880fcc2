-- Whether the plan of some call locks the class of a stripe can be told.
use Rattle.std.specs.Prelude.{◌≡◌, ℕ, ◌+◌, ◌<◌, ◌≤◌, ◌&&◌, ◌⊎◌, not, Bool, true, false, List}
use Rattle.rc_multi.specs.Imports.{list_any, In, in_list_any, list_any_in, Call, Spec, class_at, band_start, Statement, Lock, SpecWithPlans, plan_at, IsOfClass, IsOfClassLocked}
use Rattle.std.proofs.Common.{refl, sym, ap, subst, ◌∙◌, inl, inr, arith, ltb}
use Rattle.std.proofs.lemmas.Bool.{false≢true, le-ltb, lt-ltb, ltb-false, ltb-true}
use Rattle.rc_multi.specs.declared.class_lock.ClassLock.{ClassLock}
use Rattle.rc_multi.specs.GroupLocks.{class_lock, is_lock}
use Rattle.rc_multi.specs.GroupLocksLaws.{lock_of}
use Rattle.rc_multi.specs.Laws.{IsUsedBy}

-- the stripe is of the class
abbrev of_class : Spec → ℕ → ℕ → Bool
of_class spec p c = not (ltb p (band_start spec c)) && ltb p (band_start spec c + (class_at spec c).stripes)

-- some statement locks its class
abbrev locked_by : Spec → ℕ → List Statement → Bool
locked_by spec p plan = list_any (λ s. is_lock (λ l. of_class spec p l.class) (class_lock s)) plan

both_true : (a b : Bool) → a && b ≡ true → (a ≡ true) × (b ≡ true)
both_true true b e = (refl, e)
both_true false b e = absurd (false≢true e)

true_both : (a b : Bool) → a ≡ true → b ≡ true → a && b ≡ true
true_both true b e f = f
true_both false b e f = absurd (false≢true e)

at_least : (a b : ℕ) → not (ltb a b) ≡ true → b ≤ a
at_least a b e = go (ltb a b) refl
  where
    go : (t : Bool) → ltb a b ≡ t → b ≤ a
    go true f = absurd (false≢true (sym (ap not f) ∙ e))
    go false f = ltb-false a b f

not_below : (a b : ℕ) → b ≤ a → not (ltb a b) ≡ true
not_below a b l = ap not (le-ltb a b l)

is_of_class : (spec : Spec) (p c : ℕ) → of_class spec p c ≡ true → IsOfClass spec p c
is_of_class spec p c e =
    let both = both_true (not (ltb p (band_start spec c))) (ltb p (band_start spec c + (class_at spec c).stripes)) e in
    record { from = at_least p (band_start spec c) both.0; before = ltb-true p (band_start spec c + (class_at spec c).stripes) both.1 }

of_class_is : (spec : Spec) (p c : ℕ) → IsOfClass spec p c → of_class spec p c ≡ true
of_class_is spec p c i =
    true_both (not (ltb p (band_start spec c))) (ltb p (band_start spec c + (class_at spec c).stripes)) (not_below p (band_start spec c) i.from)
    (lt-ltb p (band_start spec c + (class_at spec c).stripes) i.before)

locked_so : (spec : Spec) (p : ℕ) (plan : List Statement) → locked_by spec p plan ≡ true → IsOfClassLocked spec plan p
locked_so spec p plan e =
    let w = in_list_any (λ s. is_lock (λ l. of_class spec p l.class) (class_lock s)) plan e in
    let l = lock_of (λ l. of_class spec p l.class) w.0 w.2 in
    (l.0.class, l.0.choice, l.0.mode, subst (λ (s : Statement). In s plan) l.1 w.1, is_of_class spec p l.0.class l.2)

so_locked : (spec : Spec) (p : ℕ) (plan : List Statement) → IsOfClassLocked spec plan p → locked_by spec p plan ≡ true
so_locked spec p plan k =
    list_any_in (λ s. is_lock (λ l. of_class spec p l.class) (class_lock s)) plan (Lock k.0 k.1 k.2) k.3 (of_class_is spec p k.0 k.4)

pub decide_used : (c : SpecWithPlans) (calls : List Call) (p : ℕ) → IsUsedBy c calls p ⊎ (IsUsedBy c calls p → ⊥)
decide_used c calls p = go (list_any test calls) refl
  where
    test : Call → Bool
    test call = locked_by c.spec p (plan_at c.plans call.op)

    go : (b : Bool) → list_any test calls ≡ b → IsUsedBy c calls p ⊎ (IsUsedBy c calls p → ⊥)
    go true e = let w = in_list_any test calls e in inl (w.0, w.1, locked_so c.spec p (plan_at c.plans w.0.op) w.2)
    go false e = inr (λ u. false≢true (sym e ∙ list_any_in test calls u.0 u.1 (so_locked c.spec p (plan_at c.plans u.0.op) u.2)))
