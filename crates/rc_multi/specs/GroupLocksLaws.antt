-- The locks of a group suffice for its calls.
use Rattle.std.specs.Prelude.{◌≡◌, ℕ, zero, suc, ◌+◌, ◌++◌, ◌<◌, ◌≤◌, ◌==◌, ◌&&◌, ◌⊎◌, not, All, Bool, true, false, List, [], ◌∷◌, Option, None, Some, filter, length, map, if◌then◌else◌}
use Rattle.rc_multi.specs.Imports.{flat_map, list_any, range_with_len, nat_cmp, nat_cmp_is, Less, In, IsRising, each_in, filter_in, flat_map_in, gather_in, in_append, in_filter, in_flat_map, in_gather, in_map, map_in, nat_order, rising_gather, in_list_any, list_any_in, within_from_test, in_range_below, in_range_bounds, rising_range, cols_of, Mode, Exclusive, Shared, Spec, Fits, IsPlaced, class_at, band_start, physical_stripe, stripe_total, no_class, Class, sum_by, band_before, Statement, Lock, Probe, Read, CheckAbsent, CheckFound, CheckDep, Apply, Emit, Commit, Release, Which, own_plan_accepted, IsNamedBy, StripeLock, Suffices, IsOfClass, band, stripes_of, IsOfClass-physical_stripe, band_of_class, in_stripes_of, CallWithPlan, with_plan, with_plans, IsOfClassLocked}
use Rattle.std.proofs.Common.{refl, sym, ap, subst, ◌∙◌, inl, inr, arith}
use Rattle.std.proofs.lemmas.Bool.{eqb-true, eq-eqb, false≢true}
use Rattle.std.proofs.lemmas.List.Elements.{All-nil, All-cons}
use Rattle.std.proofs.lemmas.Option.{slice_get_within}
use Rattle.std.proofs.lemmas.List.Sums.{sum_by_more_le}
use Rattle.std.proofs.lemmas.List.{take_all}
use Rattle.rc_plan.specs.declared.statement.Which.TheVariants as which
use Rattle.rc_multi.specs.declared.class_lock.ClassLock.{ClassLock}
use Rattle.rc_multi.specs.ClassUse.{class_locks, in_mode}
use Rattle.rc_multi.specs.Laws.{CallsThatFitHaveOperations, GroupLocksAreLocked, GroupLocksLieInside, GroupLocksRise, GroupLocksSuffice}
use Rattle.rc_multi.specs.GroupLocks.{HasOperation, chooses, chosen_stripes, class_lock, group_locks, group_mode, group_stripes, is_exclusive, is_lock, locks_class, may_be_any, may_take_any, takes_any, writes_class}

-- calls that fit have operations
pub have_operations : CallsThatFitHaveOperations
have_operations spec [] fit = All-nil (HasOperation spec)
have_operations spec (call ∷ calls) fit = All-cons (HasOperation spec) call calls (slice_get_within spec.ops call.op fit.0.0 fit.0.1.known) (have_operations spec calls fit.1)

and_both : (a b : Bool) → a ≡ true → b ≡ true → a && b ≡ true
and_both true b e f = f
and_both false b e f = absurd (false≢true e)

not_so : (b : Bool) → not b ≡ true ⊎ (b ≡ true)
not_so true = inr refl
not_so false = inl refl

suffices_shared : (mode : Mode) → Suffices mode Shared
suffices_shared Exclusive = tt
suffices_shared Shared = tt

-- by a call
abbrev takes_any_by : Spec → ℕ → CallWithPlan → Bool
takes_any_by spec c x = list_any (takes_any spec x.call.args c) x.plan

abbrev locks_by : ℕ → CallWithPlan → Bool
locks_by c x = list_any (locks_class c) x.plan

abbrev writes_by : ℕ → CallWithPlan → Bool
writes_by c x = list_any (writes_class c) x.plan

abbrev stripe_by : Spec → ℕ → CallWithPlan → ℕ
stripe_by spec c x = physical_stripe spec c x.call.args

module _ (spec : Spec) (calls : List CallWithPlan) (x : CallWithPlan) (m : In x calls) (lock : StripeLock) (n : IsNamedBy spec x.call.args x.plan lock) where
  any_by : may_be_any (chooses spec x.call.args n.class) n.choice ≡ true → may_take_any spec calls n.class ≡ true
  any_by e =
      list_any_in (takes_any_by spec n.class) calls x m
      (list_any_in (takes_any spec x.call.args n.class) x.plan (Lock n.class n.choice lock.1) n.locks
      (and_both (n.class == n.class) (may_be_any (chooses spec x.call.args n.class) n.choice) (eq-eqb n.class n.class refl) e))

  -- where no call may take any stripe of the class, it is the arguments' own
  own_stripe : may_take_any spec calls n.class ≡ false → lock.0 ≡ stripe_by spec n.class x
  own_stripe none = go n.choice refl
    where
      go : (choice : Which) → n.choice ≡ choice → lock.0 ≡ stripe_by spec n.class x
      go which.All e = absurd (false≢true (sym none ∙ any_by (ap (may_be_any (chooses spec x.call.args n.class)) e)))
      go which.Keyed e = elim (not_so (chooses spec x.call.args n.class)) [
        | inl out ↦ absurd (false≢true (sym none ∙ any_by (ap (may_be_any (chooses spec x.call.args n.class)) e ∙ out)))
        | inr within ↦ n.by_arguments e (within_from_test (class_at spec n.class).cols (cols_of x.call.args) within)
      ]

  stripe_there : In lock.0 (group_stripes spec calls n.class)
  stripe_there = go (may_take_any spec calls n.class) refl
    where
      go : (b : Bool) → may_take_any spec calls n.class ≡ b → In lock.0 (if b then band spec n.class else chosen_stripes spec calls n.class)
      go true e = (band_of_class spec lock.0 n.class).1 n.of_class
      go false e =
          subst (λ stripe. In stripe (chosen_stripes spec calls n.class)) (sym (own_stripe e))
          (gather_in nat_cmp nat_order (stripe_by spec n.class x) (map (stripe_by spec n.class) (filter (locks_by n.class) calls))
          (map_in (stripe_by spec n.class) x (filter (locks_by n.class) calls)
          (filter_in (locks_by n.class) x calls m (list_any_in (locks_class n.class) x.plan (Lock n.class n.choice lock.1) n.locks (eq-eqb n.class n.class refl)))))

  mode_there : Suffices (group_mode calls n.class) lock.1
  mode_there = go lock.1 refl
    where
      go : (mode : Mode) → lock.1 ≡ mode → Suffices (group_mode calls n.class) mode
      go Shared e = suffices_shared (group_mode calls n.class)
      go Exclusive e =
          let writes : list_any (writes_by n.class) calls ≡ true =
          list_any_in (writes_by n.class) calls x m
          (list_any_in (writes_class n.class) x.plan (Lock n.class n.choice lock.1) n.locks
          (and_both (n.class == n.class) (is_exclusive lock.1) (eq-eqb n.class n.class refl) (ap is_exclusive e))) in
          subst (λ (b : Bool). Suffices (if b then Exclusive else Shared) Exclusive) (sym writes) tt

-- a lock of a class is among the group's
lock_there : (spec : Spec) (calls : List CallWithPlan) (c p : ℕ) → c < length spec.classes → In p (group_stripes spec calls c) → In (p, group_mode calls c) (group_locks spec calls)
lock_there spec calls c p known m =
    flat_map_in (class_locks spec calls) (p, group_mode calls c) c (range_with_len 0 (length spec.classes)) (in_range_below (length spec.classes) c known)
    (map_in (λ s. let l : StripeLock = (s, group_mode calls c) in l) p (group_stripes spec calls c) m)

-- Whatever a plan of one of the calls may name is among the group's locks, in a mode that suffices.
pub group_locks_suffice : GroupLocksSuffice
group_locks_suffice c ok calls fit call m lock n =
    let all : List CallWithPlan = with_plans c.plans calls in
    let there : In (with_plan c.plans call) all = map_in (with_plan c.plans) call calls m in
    let known : n.class < length c.spec.classes = (own_plan_accepted c ok call (each_in (Fits c.spec) calls fit call m)).known (Lock n.class n.choice lock.1) n.locks in
    let stripe : In lock.0 (group_stripes c.spec all n.class) = stripe_there c.spec all (with_plan c.plans call) there lock n in
    (group_mode all n.class, lock_there c.spec all n.class lock.0 known stripe, mode_there c.spec all (with_plan c.plans call) there lock n)

-- ---- each is of a class that a plan locks

and_left : (a b : Bool) → a && b ≡ true → a ≡ true
and_left true b e = refl
and_left false b e = absurd (false≢true e)

-- a statement that passes a test of Locks is one
pub lock_of : (test : ClassLock → Bool) (s : Statement) → is_lock test (class_lock s) ≡ true → (l : ClassLock) × (s ≡ Lock l.class l.choice l.mode) × (test l ≡ true)
lock_of test (Lock c choice mode) e = (record { class = c; choice = choice; mode = mode }, refl, e)
lock_of test (Probe cols) e = absurd (false≢true e)
lock_of test (Read i mode) e = absurd (false≢true e)
lock_of test CheckAbsent e = absurd (false≢true e)
lock_of test CheckFound e = absurd (false≢true e)
lock_of test (CheckDep dep) e = absurd (false≢true e)
lock_of test Apply e = absurd (false≢true e)
lock_of test Emit e = absurd (false≢true e)
lock_of test Commit e = absurd (false≢true e)
lock_of test (Release c) e = absurd (false≢true e)

-- a statement is the Lock that it has
pub lock_is : (s : Statement) (l : ClassLock) → class_lock s ≡ Some l → s ≡ Lock l.class l.choice l.mode
lock_is s l e =
    let w = lock_of (λ _. true) s (ap (is_lock (λ _. true)) e) in
    w.1 ∙ ap lock_at (sym (ap class_lock w.1) ∙ e)
  where
    lock_at : Option ClassLock → Statement
    lock_at None = Emit
    lock_at (Some k) = Lock k.class k.choice k.mode

-- a plan with a Lock that is of the class locks the stripes of the class
class_locked : (spec : Spec) (c p : ℕ) (test : ClassLock → Bool) → ((l : ClassLock) → test l ≡ true → l.class == c ≡ true) → (plan : List Statement)
    → list_any (λ s. is_lock test (class_lock s)) plan ≡ true → IsOfClass spec p c → IsOfClassLocked spec plan p
class_locked spec c p test of plan e i =
    let w = in_list_any (λ s. is_lock test (class_lock s)) plan e in
    let l = lock_of test w.0 w.2 in
    let same : l.0.class ≡ c = eqb-true l.0.class c (of l.0 l.2) in
    (c, l.0.choice, l.0.mode, subst (λ s. In s plan) (l.1 ∙ ap (λ (k : ℕ). Lock k l.0.choice l.0.mode) same) w.1, i)

stripe_locked : (spec : Spec) → IsPlaced spec → (calls : List CallWithPlan) (c p : ℕ) → c < length spec.classes → In p (group_stripes spec calls c)
    → (x : CallWithPlan) × In x calls × IsOfClassLocked spec x.plan p
stripe_locked spec placed calls c p known m = go (may_take_any spec calls c) refl m
  where
    go : (b : Bool) → may_take_any spec calls c ≡ b → In p (if b then band spec c else chosen_stripes spec calls c)
        → (x : CallWithPlan) × In x calls × IsOfClassLocked spec x.plan p
    go true e i =
        let w = in_list_any (takes_any_by spec c) calls e in (
          w.0,
          w.1,
          class_locked spec c p (λ l. (l.class == c) && may_be_any (chooses spec w.0.call.args c) l.choice)
              (λ l t. and_left (l.class == c) (may_be_any (chooses spec w.0.call.args c) l.choice) t) w.0.plan w.2 ((band_of_class spec p c).0 i),
        )
    go false e i =
        let w : (x : CallWithPlan) × In x (filter (locks_by c) calls) × (p ≡ stripe_by spec c x) =
        in_map (stripe_by spec c) p (filter (locks_by c) calls) (in_gather nat_cmp nat_order p (map (stripe_by spec c) (filter (locks_by c) calls)) i) in
        let f = in_filter (locks_by c) w.0 calls w.1 in (
          w.0,
          f.0,
          class_locked spec c p (λ l. l.class == c) (λ l t. t) w.0.plan f.1
              (subst (λ (q : ℕ). IsOfClass spec q c) (sym w.2) (IsOfClass-physical_stripe spec placed c w.0.call.args known)),
        )

-- a stripe among the locks of classes
of_some_class : (spec : Spec) (calls : List CallWithPlan) (cs : List ℕ) (p : ℕ) → In p (stripes_of (flat_map (class_locks spec calls) cs))
    → (d : ℕ) × In d cs × In p (group_stripes spec calls d)
of_some_class spec calls cs p m =
    let w = in_stripes_of p (flat_map (class_locks spec calls) cs) m in
    let v = in_flat_map (class_locks spec calls) w.0 cs w.1 in
    let q : (s : ℕ) × In s (group_stripes spec calls v.0) × (w.0 ≡ (s, group_mode calls v.0)) =
    in_map (λ s. let l : StripeLock = (s, group_mode calls v.0) in l) w.0 (group_stripes spec calls v.0) v.2 in
    (v.0, v.1, subst (λ k. In k (group_stripes spec calls v.0)) (sym (w.2 ∙ ap (λ (l : StripeLock). l.0) q.2)) q.1)

-- each stripe of a group is of a class that the plan of one of its calls locks
pub group_locks_are_locked : GroupLocksAreLocked
group_locks_are_locked spec placed calls p m =
    let d = of_some_class spec calls (range_with_len 0 (length spec.classes)) p m in
    let below : d.0 < length spec.classes = (let b = in_range_bounds 0 (length spec.classes) d.0 d.1 in omega (arith, b.1)) in
    stripe_locked spec placed calls d.0 p below d.2

-- ---- they rise

less_to : (a b : ℕ) → a < b → nat_cmp a b ≡ Less
less_to a b l = sym (nat_cmp_is a b Less l)

rising_append : (xs ys : List ℕ) → IsRising nat_cmp xs → IsRising nat_cmp ys → ((x y : ℕ) → In x xs → In y ys → x < y) → IsRising nat_cmp (xs ++ ys)
rising_append [] ys a b f = b
rising_append (x ∷ xs) ys a b f = (
  (λ y m. elim (in_append y xs ys m) [ inl n ↦ a.0 y n | inr n ↦ less_to x y (f x y (inl refl) n) ]),
  rising_append xs ys a.1 b (λ z y m n. f z y (inr m) n),
)

-- the stripes of two lists of locks
stripes_of_both : (xs ys : List StripeLock) → stripes_of (xs ++ ys) ≡ stripes_of xs ++ stripes_of ys
stripes_of_both [] ys = refl
stripes_of_both (x ∷ xs) ys = ap (λ l. x.0 ∷ l) (stripes_of_both xs ys)

pub stripes_in_mode : (mode : Mode) (stripes : List ℕ) → stripes_of (in_mode mode stripes) ≡ stripes
stripes_in_mode mode [] = refl
stripes_in_mode mode (x ∷ xs) = ap (λ l. x ∷ l) (stripes_in_mode mode xs)

module _ (spec : Spec) (placed : IsPlaced spec) (calls : List CallWithPlan) where
  group_stripe_of_class : (c p : ℕ) → c < length spec.classes → In p (group_stripes spec calls c) → IsOfClass spec p c
  group_stripe_of_class c p known m = go (may_take_any spec calls c) m
    where
      go : (b : Bool) → In p (if b then band spec c else chosen_stripes spec calls c) → IsOfClass spec p c
      go true i = (band_of_class spec p c).0 i
      go false i =
          let w : (x : CallWithPlan) × In x (filter (locks_by c) calls) × (p ≡ stripe_by spec c x) =
          in_map (stripe_by spec c) p (filter (locks_by c) calls) (in_gather nat_cmp nat_order p (map (stripe_by spec c) (filter (locks_by c) calls)) i) in
          subst (λ (q : ℕ). IsOfClass spec q c) (sym w.2) (IsOfClass-physical_stripe spec placed c w.0.call.args known)

  group_stripes_rise : (c : ℕ) → IsRising nat_cmp (group_stripes spec calls c)
  group_stripes_rise c = go (may_take_any spec calls c)
    where
      go : (b : Bool) → IsRising nat_cmp (if b then band spec c else chosen_stripes spec calls c)
      go true = rising_range (band_start spec c) (class_at spec c).stripes
      go false = rising_gather nat_cmp nat_order (map (stripe_by spec c) (filter (locks_by c) calls))

  rise_from : (n k : ℕ) → k + n ≤ length spec.classes → IsRising nat_cmp (stripes_of (flat_map (class_locks spec calls) (range_with_len k n)))
  rise_from zero k l = tt
  rise_from (suc n) k l =
      let later : List StripeLock = flat_map (class_locks spec calls) (range_with_len (k + 1) n) in
      let known : k < length spec.classes = omega arith in
      let apart : (x y : ℕ) → In x (group_stripes spec calls k) → In y (stripes_of later) → x < y = (λ x y a b.
      let d = of_some_class spec calls (range_with_len (k + 1) n) y b in
      let bounds : (k + 1 ≤ d.0) × (d.0 < k + 1 + n) = in_range_bounds (k + 1) n d.0 d.1 in
      let below : d.0 < length spec.classes = omega (arith, bounds.1) in
      let x_of : IsOfClass spec x k = group_stripe_of_class k x known a in
      let y_of : IsOfClass spec y d.0 = group_stripe_of_class d.0 y below d.2 in
      let bands : band_start spec k + (class_at spec k).stripes ≤ band_start spec d.0 = band_before spec k d.0 (omega (arith, bounds.0)) below in
      omega (arith, x_of.before, y_of.from, bands)) in
      subst (IsRising nat_cmp) (sym (stripes_of_both (class_locks spec calls k) later ∙ ap (λ l. l ++ stripes_of later) (stripes_in_mode (group_mode calls k) (group_stripes spec calls k))))
      (rising_append (group_stripes spec calls k) (stripes_of later) (group_stripes_rise k) (rise_from n (k + 1) (omega (arith, l))) apart)

-- the locks of a group rise
pub group_locks_rise : GroupLocksRise
group_locks_rise spec placed calls = rise_from spec placed calls (length spec.classes) 0 (omega arith)

-- they are stripes of the specification
pub group_locks_below : GroupLocksLieInside
group_locks_below spec placed calls p m =
    let d = of_some_class spec calls (range_with_len 0 (length spec.classes)) p m in
    let known : d.0 < length spec.classes = (let b = in_range_bounds 0 (length spec.classes) d.0 d.1 in omega (arith, b.1)) in
    let of : IsOfClass spec p d.0 = group_stripe_of_class spec placed calls d.0 p known d.2 in
    let band : band_start spec d.0 + (class_at spec d.0).stripes ≤ sum_by (λ (class : Class). class.stripes) spec.classes = sum_by_more_le (λ (class : Class). class.stripes) spec.classes d.0 no_class known in
    let all : stripe_total spec ≡ sum_by (λ (class : Class). class.stripes) spec.classes = ap (sum_by (λ (class : Class). class.stripes)) (take_all (length spec.classes) spec.classes (omega arith)) in
    omega (arith, of.before, band, all)
