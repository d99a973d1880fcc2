-- What the tests over the sets of a progress find, as facts of the progress.
use Rattle.rc_check.proofs.Imports.{IfSome, nat_cmp, false≢true, leb-true, le-leb, In, gather, nat_order, in_has, has_in, in_map, map_in, gather-rising, Within, has, is_within, within_from_test, test_from_within, rising_range, Dep, Op, OpKind, Query, Insert, Remove, Update, Mode, Spec, GivesTuple, all_columns, value_columns, range_columns, at_found, class_at, ReadMode, Lookup, Statement, Lock, CheckDep, Which, dep_at, no_dep, Progress, Covers, FindsTuples, IsAtRisk, IsFindable, IsKeyBound, IsLocked, KeepsK2, KeepsK7, OutputsAreVisited, TellsOld, pattern_columns, ProgressSets, sets_of, keyed_classes, whole_classes, above, places_of_deps, in_gathered, in_keyed_classes, in_whole_classes, in_places_of_deps, below_above, above_below}
use Rattle.std.proofs.Common.{◌≡◌, ℕ, ◌+◌, ◌-◌, ◌<◌, ◌≤◌, ◌↔◌, ◌⊎◌, Bool, true, false, not, leb, List, Option, Some, length, map, get_or, refl, sym, ap, subst, ◌∙◌, inl, inr, arith, zero, suc, below_more}
use Rattle.rc_plan.specs.declared.statement.Which.TheVariants as which

pub some_same : (x y : List ℕ) → Some x ≡ Some y → x ≡ y
some_same x y e = cc

-- two equivalences, one after the other
pub both_ways : {A B C : Type 0} → A ↔ B → B ↔ C → A ↔ C
both_ways f g = ((λ a. g.0 (f.0 a)), λ c. f.1 (g.1 c))

pub not_test : {A : Type 0} (b : Bool) → (b ≡ true) ↔ A → (not b ≡ true) ↔ (A → ⊥)
not_test true t = ((λ h. absurd (false≢true h)), λ k. absurd (k (t.0 refl)))
not_test false t = ((λ h a. false≢true (t.1 a)), λ k. refl)

pub has_test : (xs ys : List ℕ) (n : ℕ) (b : Bool) → b ≡ has xs n → xs ≡ ys → (b ≡ true) ↔ In n ys
has_test xs ys n b e same = ((λ h. subst (In n) same (in_has xs n (sym e ∙ h))), λ m. e ∙ has_in xs n (subst (In n) (sym same) m))

pub gathered_test : (xs ys : List ℕ) (n : ℕ) (b : Bool) → b ≡ has xs n → xs ≡ gather nat_cmp ys → (b ≡ true) ↔ In n ys
gathered_test xs ys n b e same = both_ways (has_test xs (gather nat_cmp ys) n b e same) (in_gathered ys n)

pub within_test : (xs xs' ys ys' : List ℕ) (b : Bool) → b ≡ is_within xs ys → xs ≡ xs' → ys ≡ ys' → (b ≡ true) ↔ Within xs' ys'
within_test xs xs' ys ys' b e s t = (
  (λ h. subst (λ l. Within l ys') s (subst (Within xs) t (within_from_test xs ys (sym e ∙ h)))),
  λ w. e ∙ test_from_within xs ys (subst (λ l. Within l ys) (sym s) (subst (Within xs') (sym t) w)),
)

-- ---- K2

pub after_all_locked : (p : Progress) (s : ProgressSets) (x : Statement) (c : ℕ) (choice : Which) (mode : Mode) → s ≡ sets_of p → x ≡ Lock c choice mode
    → (leb s.next_class c ≡ true) ↔ KeepsK2 p x
after_all_locked p s x c choice mode e is =
    let next : s.next_class ≡ above (map (λ (lock : ℕ × Which). lock.0) p.locked) = ap (λ (k : ProgressSets). k.next_class) e in
    subst (λ (y : Statement). (leb s.next_class c ≡ true) ↔ KeepsK2 p y) (sym is) (
      (λ h lock m. below_above (map (λ (l : ℕ × Which). l.0) p.locked) c (subst (λ n. n ≤ c) next (leb-true s.next_class c h)) lock.0 (map_in (λ (l : ℕ × Which). l.0) lock p.locked m)),
      λ k. le-leb s.next_class c (subst (λ n. n ≤ c) (sym next) (above_below (map (λ (l : ℕ × Which). l.0) p.locked) c (λ n m.
          let w : (lock : ℕ × Which) × In lock p.locked × (n ≡ lock.0) = in_map (λ (l : ℕ × Which). l.0) n p.locked m in subst (λ z. z < c) (sym w.2) (k w.0 w.1)))),
    )

-- ---- locked classes

pub keyed_test : (p : Progress) (s : ProgressSets) (c : ℕ) (b : Bool) → s ≡ sets_of p → b ≡ has s.keyed c → (b ≡ true) ↔ In (c, which.Keyed) p.locked
keyed_test p s c b e h = both_ways (gathered_test s.keyed (keyed_classes p.locked) c b h (ap (λ (k : ProgressSets). k.keyed) e)) (in_keyed_classes p.locked c)

pub whole_test : (p : Progress) (s : ProgressSets) (c : ℕ) (b : Bool) → s ≡ sets_of p → b ≡ has s.whole c → (b ≡ true) ↔ In (c, which.All) p.locked
whole_test p s c b e h = both_ways (gathered_test s.whole (whole_classes p.locked) c b h (ap (λ (k : ProgressSets). k.whole) e)) (in_whole_classes p.locked c)

pub released_test : (p : Progress) (s : ProgressSets) (c : ℕ) (b : Bool) → s ≡ sets_of p → b ≡ has s.released c → (b ≡ true) ↔ In c p.released
released_test p s c b e h = gathered_test s.released p.released c b h (ap (λ (k : ProgressSets). k.released) e)

pub reached_test : (p : Progress) (s : ProgressSets) (v : ℕ) (b : Bool) → s ≡ sets_of p → b ≡ has s.reached v → (b ≡ true) ↔ In v p.reached
reached_test p s v b e h = gathered_test s.reached p.reached v b h (ap (λ (k : ProgressSets). k.reached) e)

-- a class that isn't locked keyed
pub locked_whole : (p : Progress) (c : ℕ) (keyed whole : Bool) → (keyed ≡ true) ↔ In (c, which.Keyed) p.locked → (whole ≡ true) ↔ In (c, which.All) p.locked → keyed ≡ false
    → (whole ≡ true) ↔ IsLocked p c
locked_whole p c keyed whole k w none = ((λ h. (which.All, w.0 h)), λ h. go h.0 h.1)
  where
    go : (choice : Which) → In (c, choice) p.locked → whole ≡ true
    go which.Keyed m = absurd (false≢true (sym none ∙ k.1 m))
    go which.All m = w.1 m

released_within : (p : Progress) (choice : Which) (xs ys classes : List ℕ) (b : Bool) → ((c : ℕ) → In c classes ↔ In (c, choice) p.locked) → xs ≡ gather nat_cmp classes
    → ys ≡ gather nat_cmp p.released → b ≡ is_within xs ys → (b ≡ true) ↔ ((c : ℕ) → In (c, choice) p.locked → In c p.released)
released_within p choice xs ys classes b is s t e =
    let test = within_test xs (gather nat_cmp classes) ys (gather nat_cmp p.released) b e s t in (
      (λ h c m. (in_gathered p.released c).0 (test.0 h c ((in_gathered classes c).1 ((is c).1 m)))),
      λ k. test.1 (λ c m. (in_gathered p.released c).1 (k c ((is c).0 ((in_gathered classes c).0 m)))),
    )

pub keyed_released : (p : Progress) (s : ProgressSets) (b : Bool) → s ≡ sets_of p → b ≡ is_within s.keyed s.released
    → (b ≡ true) ↔ ((c : ℕ) → In (c, which.Keyed) p.locked → In c p.released)
keyed_released p s b e h =
    released_within p which.Keyed s.keyed s.released (keyed_classes p.locked) b (in_keyed_classes p.locked) (ap (λ (k : ProgressSets). k.keyed) e) (ap (λ (k : ProgressSets). k.released) e) h

pub whole_released : (p : Progress) (s : ProgressSets) (b : Bool) → s ≡ sets_of p → b ≡ is_within s.whole s.released
    → (b ≡ true) ↔ ((c : ℕ) → In (c, which.All) p.locked → In c p.released)
whole_released p s b e h =
    released_within p which.All s.whole s.released (whole_classes p.locked) b (in_whole_classes p.locked) (ap (λ (k : ProgressSets). k.whole) e) (ap (λ (k : ProgressSets). k.released) e) h

-- each locked class is released, where each is that is locked keyed, and each of which all stripes are
pub all_released : (p : Progress) → ((c : ℕ) → In (c, which.Keyed) p.locked → In c p.released) → ((c : ℕ) → In (c, which.All) p.locked → In c p.released)
    → (c : ℕ) → IsLocked p c → In c p.released
all_released p k w c h = go h.0 h.1
  where
    go : (choice : Which) → In (c, choice) p.locked → In c p.released
    go which.Keyed m = k c m
    go which.All m = w c m

-- ---- K3

pub covers_keyed : (spec : Spec) (p : Progress) (c : ℕ) (xs cols : List ℕ) (b : Bool) → xs ≡ (class_at spec c).cols → p.probe ≡ Some cols → b ≡ is_within xs cols
    → (b ≡ true) ↔ Covers spec p c which.Keyed
covers_keyed spec p c xs cols b same probe e =
    subst (λ (o : Option (List ℕ)). (b ≡ true) ↔ IfSome o (λ ys. Within (class_at spec c).cols ys)) (sym probe) (within_test xs (class_at spec c).cols cols cols b e same refl)

pub key_bound : (spec : Spec) (c : ℕ) (choice : Which) (xs ys zs : List ℕ) (b : Bool) → choice ≡ which.Keyed → xs ≡ (class_at spec c).cols → ys ≡ zs → b ≡ is_within xs ys
    → (b ≡ true) ↔ IsKeyBound spec c choice zs
key_bound spec c choice xs ys zs b is same t e = subst (λ (k : Which). (b ≡ true) ↔ IsKeyBound spec c k zs) (sym is) (within_test xs (class_at spec c).cols ys zs b e same t)

-- a class of which not all stripes are locked covers a search by those that are
pub covered_keyed : (spec : Spec) (p : Progress) (c : ℕ) (whole keyed b : Bool) → (whole ≡ true) ↔ In (c, which.All) p.locked → (keyed ≡ true) ↔ In (c, which.Keyed) p.locked
    → (b ≡ true) ↔ Covers spec p c which.Keyed → whole ≡ false → keyed ≡ true → (b ≡ true) ↔ ((choice : Which) × In (c, choice) p.locked × Covers spec p c choice)
covered_keyed spec p c whole keyed b w k covers some here = ((λ h. (which.Keyed, k.0 here, covers.0 h)), λ h. go h.0 h.1 h.2)
  where
    go : (choice : Which) → In (c, choice) p.locked → Covers spec p c choice → b ≡ true
    go which.Keyed m q = covers.1 q
    go which.All m q = absurd (false≢true (sym some ∙ w.1 m))

pub not_covered : (spec : Spec) (p : Progress) (c : ℕ) (whole keyed : Bool) → (whole ≡ true) ↔ In (c, which.All) p.locked → (keyed ≡ true) ↔ In (c, which.Keyed) p.locked
    → whole ≡ false → keyed ≡ false → (choice : Which) × In (c, choice) p.locked × Covers spec p c choice → ⊥
not_covered spec p c whole keyed w k some none h = go h.0 h.1
  where
    go : (choice : Which) → In (c, choice) p.locked → ⊥
    go which.Keyed m = false≢true (sym none ∙ k.1 m)
    go which.All m = false≢true (sym some ∙ w.1 m)

-- ---- K5 and K6

pub findable : (mode : ReadMode) (key columns : List ℕ) (b : Bool) → mode ≡ Lookup → b ≡ is_within key columns → (b ≡ true) ↔ IsFindable mode key columns
findable mode key columns b is e = subst (λ (m : ReadMode). (b ≡ true) ↔ IsFindable m key columns) (sym is) (within_test key key columns columns b e refl refl)

pub tuples_found : (spec : Spec) (kind : OpKind) (cols visited : List ℕ) (b : Bool) → kind ≡ Remove → cols ≡ all_columns spec → b ≡ is_within cols visited
    → (b ≡ true) ↔ FindsTuples spec kind visited
tuples_found spec kind cols visited b is all e =
    subst (λ (k : OpKind). (b ≡ true) ↔ FindsTuples spec k visited) (sym is) (within_test cols (all_columns spec) visited visited b e all refl)

pub outputs_visited : (kind : OpKind) (outs ranges cols visited : List ℕ) (b : Bool) → kind ≡ Query outs ranges → cols ≡ gather nat_cmp outs → b ≡ is_within cols visited
    → (b ≡ true) ↔ OutputsAreVisited kind visited
outputs_visited kind outs ranges cols visited b is same e =
    let test = within_test cols (gather nat_cmp outs) visited visited b e same refl in
    subst (λ (k : OpKind). (b ≡ true) ↔ OutputsAreVisited k visited) (sym is) (
      (λ h c m. test.0 h c ((in_gathered outs c).1 m)),
      λ w. test.1 (λ c m. w c ((in_gathered outs c).0 m)),
    )

pub ranges_visited : (kind : OpKind) (outs ranges cols visited : List ℕ) (b : Bool) → kind ≡ Query outs ranges → cols ≡ gather nat_cmp ranges → b ≡ is_within cols visited
    → (b ≡ true) ↔ Within (range_columns kind) visited
ranges_visited kind outs ranges cols visited b is same e =
    let test = within_test cols (gather nat_cmp ranges) visited visited b e same refl in
    subst (λ (k : OpKind). (b ≡ true) ↔ Within (range_columns k) visited) (sym is) (
      (λ h c m. test.0 h c ((in_gathered ranges c).1 m)),
      λ w. test.1 (λ c m. w c ((in_gathered ranges c).0 m)),
    )

pub old_told : (op : Op) (kind : OpKind) (cols visited : List ℕ) (b : Bool) → kind ≡ Update → cols ≡ pattern_columns op → b ≡ is_within cols visited
    → (b ≡ true) ↔ TellsOld op kind visited
old_told op kind cols visited b is same e =
    subst (λ (k : OpKind). (b ≡ true) ↔ TellsOld op k visited) (sym is) (within_test cols (pattern_columns op) visited visited b e same refl)

-- where a call gives a tuple, its columns are all
pub whole_given : (spec : Spec) (op : Op) (kind : OpKind) → GivesTuple kind → all_columns spec ≡ gather nat_cmp (value_columns spec op.pattern kind)
whole_given spec op (Query outs ranges) g = absurd g
whole_given spec op Insert g = sym (gather-rising nat_cmp nat_order (all_columns spec) (rising_range 0 (length spec.columns)))
whole_given spec op Remove g = absurd g
whole_given spec op Update g = sym (gather-rising nat_cmp nat_order (all_columns spec) (rising_range 0 (length spec.columns)))

-- and else the pattern's
pub pattern_given : (spec : Spec) (op : Op) (kind : OpKind) → (GivesTuple kind → ⊥) → pattern_columns op ≡ gather nat_cmp (value_columns spec op.pattern kind)
pattern_given spec op (Query outs ranges) n = refl
pattern_given spec op Insert n = absurd (n tt)
pattern_given spec op Remove n = refl
pattern_given spec op Update n = absurd (n tt)

-- ---- K7

pub checked_test : (p : Progress) (s : ProgressSets) (n : ℕ) (b : Bool) → s ≡ sets_of p → b ≡ has s.checked n → (b ≡ true) ↔ In (n + 1) p.checked
checked_test p s n b e h = both_ways (gathered_test s.checked (places_of_deps p.checked) n b h (ap (λ (k : ProgressSets). k.checked) e)) (in_places_of_deps p.checked n)

-- a dependency that was found by its place
pub dep_found : (spec : Spec) (deps : List Dep) (n : ℕ) (d : Dep) → deps ≡ spec.deps → n < length spec.deps → d ≡ get_or deps n d → dep_at spec (n + 1) ≡ d
dep_found spec deps n d same l found = subst (λ k. get_or spec.deps k no_dep ≡ d) (let k : n ≡ n + 1 - 1 = omega arith in k) (at_found deps spec.deps n no_dep d same l found)

-- one more place
pub place_more : (spec : Spec) (pattern checked : List ℕ) (n : ℕ) → ((k : ℕ) → k < n → Within pattern (dep_at spec (k + 1)).left ⊎ In k checked)
    → Within pattern (dep_at spec (n + 1)).left ⊎ In n checked → (k : ℕ) → k < n + 1 → Within pattern (dep_at spec (k + 1)).left ⊎ In k checked
place_more spec pattern checked n before here = below_more (λ k. Within pattern (dep_at spec (k + 1)).left ⊎ In k checked) n before here

-- all places
pub places_checked : (spec : Spec) (op : Op) (p : Progress) (s : ProgressSets) (pattern : List ℕ) (n : ℕ) → s ≡ sets_of p → pattern ≡ pattern_columns op → length spec.deps ≤ n
    → ((k : ℕ) → k < n → Within pattern (dep_at spec (k + 1)).left ⊎ In k s.checked) → (dep : ℕ) → 0 < dep → dep ≤ length spec.deps → IsAtRisk spec op dep → In dep p.checked
places_checked spec op p s pattern n e same few all zero some known risk = absurd (omega arith)
places_checked spec op p s pattern n e same few all (suc k) some known risk =
    let next : k + 1 ≡ suc k = omega arith in
    elim (all k (omega arith)) [
      | inl w ↦ absurd (risk (subst (λ d. Within (pattern_columns op) (dep_at spec d).left) next (subst (λ xs. Within xs (dep_at spec (k + 1)).left) same w)))
      | inr m ↦ subst (λ d. In d p.checked) next ((in_places_of_deps p.checked k).0 ((in_gathered (places_of_deps p.checked) k).0 (subst (λ (z : ProgressSets). In k z.checked) e m)))
    ]

-- a place that is neither
pub place_unchecked : (spec : Spec) (op : Op) (p : Progress) (n : ℕ) (pattern : List ℕ) (inside checked : Bool) → pattern ≡ pattern_columns op → n < length spec.deps
    → inside ≡ is_within pattern (dep_at spec (n + 1)).left → (checked ≡ true) ↔ In (n + 1) p.checked → inside ≡ false → checked ≡ false
    → ((dep : ℕ) → 0 < dep → dep ≤ length spec.deps → IsAtRisk spec op dep → In dep p.checked) → ⊥
place_unchecked spec op p n pattern inside checked same l is test out none all =
    let risk : IsAtRisk spec op (n + 1) =
    λ w. false≢true (sym out ∙ is ∙ test_from_within pattern (dep_at spec (n + 1)).left (subst (λ xs. Within xs (dep_at spec (n + 1)).left) (sym same) w)) in
    false≢true (sym none ∙ test.1 (all (n + 1) (omega arith) (omega arith) risk))

pub checks_done : (spec : Spec) (op : Op) (p : Progress) (s : ProgressSets) (b : Bool) → s ≡ sets_of p → s.sought ≡ true
    → (b ≡ true) ↔ ((dep : ℕ) → 0 < dep → dep ≤ length spec.deps → IsAtRisk spec op dep → In dep p.checked)
    → (b ≡ true) ↔ ((p.sought ≡ true) × ((dep : ℕ) → 0 < dep → dep ≤ length spec.deps → IsAtRisk spec op dep → In dep p.checked))
checks_done spec op p s b e sought test =
    ((λ h. (sym (ap (λ (z : ProgressSets). z.sought) e) ∙ sought, test.0 h)), λ k. test.1 k.1)

pub after_all_checked : (spec : Spec) (op : Op) (p : Progress) (s : ProgressSets) (x : Statement) (dep : ℕ) → s ≡ sets_of p → x ≡ CheckDep dep → s.sought ≡ true
    → (leb s.next_dep dep ≡ true) ↔ KeepsK7 spec op p x
after_all_checked spec op p s x dep e is sought =
    let next : s.next_dep ≡ above p.checked = ap (λ (k : ProgressSets). k.next_dep) e in
    subst (λ (y : Statement). (leb s.next_dep dep ≡ true) ↔ KeepsK7 spec op p y) (sym is) (
      (λ h. (sym (ap (λ (z : ProgressSets). z.sought) e) ∙ sought, below_above p.checked dep (subst (λ n. n ≤ dep) next (leb-true s.next_dep dep h)))),
      λ k. le-leb s.next_dep dep (subst (λ n. n ≤ dep) (sym next) (above_below p.checked dep k.1)),
    )
