-- What is declared suffices for the calls that are declared. (PLDI 2012, well-locked query plans, lock striping.)
use Rattle.std.proofs.Common.{◌≡◌, ℕ, ◌<◌, ◌==◌, ◌&&◌, ◌⊎◌, not, Bool, true, false, List, map, filter, length, if◌then◌else◌, refl, sym, ap, ◌∙◌, inl, inr, subst}
use Rattle.rc_embed.specs.Imports.{list_any, range_with_len, nat_cmp, Within, in_range_below, within_from_test, Agree-value, list_any_in, In, filter_in, flat_map_in, gather_in, in_map, map_in, nat_order, IsTuple, cols_of, Agree, one_pair, Call, Mode, Exclusive, Shared, Fits, StripeLock, Suffices, class_at, physical_stripe, stripe_by_values, Lock, Which, IsCompiled, SpecWithPlans, plan_at, own_plan_accepted, IsNamedBy, band, band_of_class, CallWithPlan, with_plan, with_plans, class_locks, Covers, chooses, chosen_stripes, group_locks, group_mode, group_stripes, is_exclusive, locks_class, may_be_any, may_take_any, takes_any, writes_class, compiled_of, spec_of, declared_locks, StoreSeen}
use Rattle.std.proofs.lemmas.Bool.{eq-eqb, false≢true}
use Rattle.rc_plan.specs.declared.statement.Which.TheVariants as which
use Rattle.rc_embed.specs.Asked.{AskedCall}
use Rattle.rc_embed.specs.Declaring.{IsDeclared, declared_by, declared_call}

-- A call that fits, and is declared, is covered by the stripes of what is declared: whatever its plan may want is among
-- them, in a mode that suffices.
abbrev pub DeclaredCallsAreCovered : Type 0
DeclaredCallsAreCovered = (store : StoreSeen) → IsCompiled (spec_of store.row) (compiled_of store.row).plans
    → (declared : List AskedCall) (call : Call) → Fits (spec_of store.row) call → IsDeclared (spec_of store.row) declared call
    → Covers (compiled_of store.row) call (declared_locks store.row (declared_by (spec_of store.row) declared))

and_both : (a b : Bool) → a ≡ true → b ≡ true → a && b ≡ true
and_both true b e f = f
and_both false b e f = absurd (false≢true e)

not_so : (b : Bool) → not b ≡ true ⊎ (b ≡ true)
not_so true = inr refl
not_so false = inl refl

suffices_shared : (mode : Mode) → Suffices mode Shared
suffices_shared Exclusive = tt
suffices_shared Shared = tt

-- the first call stands for the second: it is of the same operation, and has no other values
module _ (c : SpecWithPlans) (declared : List Call) (first call : Call) (m : In first declared) (op : call.op ≡ first.op)
    (tuple : IsTuple call.args) (values : (pair : ℕ × ℕ) → In pair first.args → In pair call.args)
    (lock : StripeLock) (n : IsNamedBy c.spec call.args (plan_at c.plans call.op) lock) where
  abbrev calls : List CallWithPlan
  calls = with_plans c.plans declared

  abbrev x : CallWithPlan
  x = with_plan c.plans first

  there : In x calls
  there = map_in (with_plan c.plans) first declared m

  locks : In (Lock n.class n.choice lock.1) x.plan
  locks = subst (λ (k : ℕ). In (Lock n.class n.choice lock.1) (plan_at c.plans k)) op n.locks

  any_by : may_be_any (chooses c.spec first.args n.class) n.choice ≡ true → may_take_any c.spec calls n.class ≡ true
  any_by e =
      list_any_in (λ (y : CallWithPlan). list_any (takes_any c.spec y.call.args n.class) y.plan) calls x there
      (list_any_in (takes_any c.spec first.args n.class) x.plan (Lock n.class n.choice lock.1) locks
      (and_both (n.class == n.class) (may_be_any (chooses c.spec first.args n.class) n.choice) (eq-eqb n.class n.class refl) e))

  more_cols : Within (cols_of first.args) (cols_of call.args)
  more_cols k h =
      let w : (pair : ℕ × ℕ) × In pair first.args × (k ≡ pair.0) = in_map (λ (pair : ℕ × ℕ). pair.0) k first.args h in
      subst (λ (j : ℕ). In j (cols_of call.args)) (sym w.2)
      (map_in (λ (pair : ℕ × ℕ). pair.0) w.0 call.args (values w.0 w.1))

  agree : Agree call.args first.args
  agree p q a b e = one_pair call.args tuple.rising p q a (values q b) e

  -- where none of what is declared may take any stripe of the class, its values choose that of the call
  own_stripe : may_take_any c.spec calls n.class ≡ false → lock.0 ≡ physical_stripe c.spec n.class first.args
  own_stripe none = go n.choice refl
    where
      go : (choice : Which) → n.choice ≡ choice → lock.0 ≡ physical_stripe c.spec n.class first.args
      go which.All e = absurd (false≢true (sym none ∙ any_by (ap (may_be_any (chooses c.spec first.args n.class)) e)))
      go which.Keyed e = elim (not_so (chooses c.spec first.args n.class)) [
        | inl out ↦ absurd (false≢true (sym none ∙ any_by (ap (may_be_any (chooses c.spec first.args n.class)) e ∙ out)))
        | inr test ↦
            let within : Within (class_at c.spec n.class).cols (cols_of first.args) =
            within_from_test (class_at c.spec n.class).cols (cols_of first.args) test in
            n.by_arguments e (λ k h. more_cols k (within k h))
            ∙ stripe_by_values c.spec n.class call.args first.args
            (λ k h. Agree-value call.args first.args k agree (more_cols k (within k h)) (within k h))
      ]

  stripe_there : In lock.0 (group_stripes c.spec calls n.class)
  stripe_there = go (may_take_any c.spec calls n.class) refl
    where
      go : (b : Bool) → may_take_any c.spec calls n.class ≡ b
          → In lock.0 (if b then band c.spec n.class else chosen_stripes c.spec calls n.class)
      go true e = (band_of_class c.spec lock.0 n.class).1 n.of_class
      go false e =
          let by = λ (y : CallWithPlan). physical_stripe c.spec n.class y.call.args in
          let test = λ (y : CallWithPlan). list_any (locks_class n.class) y.plan in
          subst (λ (p : ℕ). In p (chosen_stripes c.spec calls n.class)) (sym (own_stripe e))
          (gather_in nat_cmp nat_order (by x) (map by (filter test calls))
          (map_in by x (filter test calls)
          (filter_in test x calls there
          (list_any_in (locks_class n.class) x.plan (Lock n.class n.choice lock.1) locks (eq-eqb n.class n.class refl)))))

  mode_there : Suffices (group_mode calls n.class) lock.1
  mode_there = go lock.1 refl
    where
      go : (mode : Mode) → lock.1 ≡ mode → Suffices (group_mode calls n.class) mode
      go Shared e = suffices_shared (group_mode calls n.class)
      go Exclusive e =
          let writes : list_any (λ (y : CallWithPlan). list_any (writes_class n.class) y.plan) calls ≡ true =
          list_any_in (λ (y : CallWithPlan). list_any (writes_class n.class) y.plan) calls x there
          (list_any_in (writes_class n.class) x.plan (Lock n.class n.choice lock.1) locks
          (and_both (n.class == n.class) (is_exclusive lock.1) (eq-eqb n.class n.class refl) (ap is_exclusive e))) in
          subst (λ (b : Bool). Suffices (if b then Exclusive else Shared) Exclusive) (sym writes) tt

  covered : n.class < length c.spec.classes
      → (mode : Mode) × In (lock.0, mode) (group_locks c.spec calls) × Suffices mode lock.1
  covered known = (
    group_mode calls n.class,
    flat_map_in (class_locks c.spec calls) (lock.0, group_mode calls n.class) n.class (range_with_len 0 (length c.spec.classes))
        (in_range_below (length c.spec.classes) n.class known)
        (map_in (λ (s : ℕ). let l : StripeLock = (s, group_mode calls n.class) in l) lock.0 (group_stripes c.spec calls n.class) stripe_there),
    mode_there,
  )

pub declared_calls_are_covered : DeclaredCallsAreCovered
declared_calls_are_covered store ok declared call fits is lock n =
    let c : SpecWithPlans = compiled_of store.row in
    let spec = spec_of store.row in
    let first : Call = declared_call spec is.one.op is.one.values in
    let among : In first (declared_by spec declared) =
    map_in (λ (one : AskedCall). declared_call spec one.op one.values) is.one declared is.among in
    covered c (declared_by spec declared) first call among is.op fits.1.tuple is.values lock n
    ((own_plan_accepted c ok call fits).known (Lock n.class n.choice lock.1) n.locks)
