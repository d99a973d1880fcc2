-- Statements between the first Locks of a plan and its other statements.
use Rattle.std.specs.Prelude.{◌≡◌, ℕ, ◌+◌, ◌<◌, ◌≤◌, Bool, true, false, List, [], ◌∷◌, drop, get_or, length, take}
use Rattle.rc_plan.proofs.Imports.{list_all, list_any, cases_lt, false≢true, or_parts, drop_more, get_or-take, length-drop, length-take, take-take, Within, Op, Spec, class_at, class_of, OpKind, Query, Insert, Remove, Update, AreLate, IsLate, IsLockedFirst, MayBeLate, is_given_lock, is_lock, is_lock_of, given_columns, pattern_columns, AccessPath, ReadMode, Statement, Lock, Probe, Read, CheckAbsent, CheckFound, CheckDep, Apply, Emit, Commit, Release}
use Rattle.std.proofs.Common.{zero, suc, inl, inr, refl, sym, subst, ◌∙◌, arith}
use Rattle.rc_plan.proofs.FirstLemmas.{all_pass, ends_at}

-- the first of them is no Lock: no Read stands before it
late_first : (e : ℕ) (x : Statement) → IsLate e [] x → is_lock x ≡ false
late_first e (Lock c choice mode) late = absurd (false≢true late.1)
late_first e (Probe cols) late = refl
late_first e (Read k mode) late = refl
late_first e CheckAbsent late = refl
late_first e CheckFound late = refl
late_first e (CheckDep dep) late = refl
late_first e Apply late = refl
late_first e Emit late = refl
late_first e Commit late = refl
late_first e (Release c) late = refl

-- so what comes behind the first Locks is none
begins_with_none : (kind : OpKind) (e late : ℕ) (x : Statement) (xs : List Statement) → MayBeLate kind e (take late (x ∷ xs)) → list_any is_lock (drop late (x ∷ xs)) ≡ false → is_lock x ≡ false
begins_with_none kind e zero x xs may none = (or_parts (is_lock x) (list_any is_lock xs) none).0
begins_with_none (Query outs ranges) e (suc k) x xs may none = absurd (let f : x ∷ take k xs ≡ [] = may in cc)
begins_with_none Insert e (suc k) x xs may none = absurd (let f : x ∷ take k xs ≡ [] = may in cc)
begins_with_none Remove e (suc k) x xs may none = late_first e x (may 0 (omega arith))
begins_with_none Update e (suc k) x xs may none = absurd (let f : x ∷ take k xs ≡ [] = may in cc)

-- fewer of them may stand there too
late_taken : (e : ℕ) (xs : List Statement) (n : ℕ) → AreLate e xs → AreLate e (take n xs)
late_taken e xs n late k l =
    let most : length (take n xs) ≡ _ = length-take n xs in
    let below : k < n = omega (arith, most, l) in
    let inside : k < length xs = omega (arith, most, l) in
    subst (λ (before : List Statement). IsLate e before (get_or (take n xs) k Commit)) (sym (take-take k n xs (omega (arith, below))))
    (subst (IsLate e (take k xs)) (sym (get_or-take n xs k Commit below)) (late k inside))

none_taken : (n : ℕ) (xs : List Statement) → xs ≡ [] → take n xs ≡ []
none_taken zero xs e = refl
none_taken (suc n) [] e = refl
none_taken (suc n) (x ∷ xs) e = absurd cc

fewer_late : (kind : OpKind) (e n m : ℕ) (xs : List Statement) → n ≤ m → MayBeLate kind e (take m xs) → MayBeLate kind e (take n xs)
fewer_late (Query outs ranges) e n m xs l may = sym (take-take n m xs l) ∙ none_taken n (take m xs) may
fewer_late Insert e n m xs l may = sym (take-take n m xs l) ∙ none_taken n (take m xs) may
fewer_late Remove e n m xs l may = subst (AreLate e) (take-take n m xs l) (late_taken e (take m xs) n may)
fewer_late Update e n m xs l may = sym (take-take n m xs l) ∙ none_taken n (take m xs) may

-- ---- the numbers of a path are those that are found

-- a Lock that a tuple tells is a Lock
given_lock_is_lock : (spec : Spec) (cols : List ℕ) (x : Statement) → is_given_lock spec cols x ≡ true → is_lock x ≡ true
given_lock_is_lock spec cols (Lock c choice mode) e = refl
given_lock_is_lock spec cols (Probe others) e = absurd (false≢true e)
given_lock_is_lock spec cols (Read k mode) e = absurd (false≢true e)
given_lock_is_lock spec cols CheckAbsent e = absurd (false≢true e)
given_lock_is_lock spec cols CheckFound e = absurd (false≢true e)
given_lock_is_lock spec cols (CheckDep dep) e = absurd (false≢true e)
given_lock_is_lock spec cols Apply e = absurd (false≢true e)
given_lock_is_lock spec cols Emit e = absurd (false≢true e)
given_lock_is_lock spec cols Commit e = absurd (false≢true e)
given_lock_is_lock spec cols (Release c) e = absurd (false≢true e)

module _ (spec : Spec) (op : Op) (plan : List Statement) (p : AccessPath) (path : IsLockedFirst spec op plan p) where
  -- what comes behind its first Locks is none
  next : p.locks < length plan → is_lock (get_or plan p.locks Commit) ≡ false
  next l =
      let split : drop p.locks plan ≡ get_or plan p.locks Commit ∷ drop (p.locks + 1) plan = drop_more plan p.locks Commit l in
      begins_with_none op.kind p.edge p.late (get_or plan p.locks Commit) (drop (p.locks + 1) plan)
      (subst (λ (xs : List Statement). MayBeLate op.kind p.edge (take p.late xs)) split path.late) (subst (λ (xs : List Statement). list_any is_lock (drop p.late xs) ≡ false) split path.others)

  locks_within : p.locks ≤ length plan
  locks_within = let within = path.within in omega (arith, within)

  first_are : list_all is_lock (take p.locks plan) ≡ true
  first_are = all_pass (is_given_lock spec (given_columns spec op)) is_lock (given_lock_is_lock spec (given_columns spec op)) (take p.locks plan) path.first

  module _ (n : ℕ) (within : n ≤ length plan) (locks : list_all is_lock (take n plan) ≡ true) (most : (k : ℕ) → k ≤ length plan → list_all is_lock (take k plan) ≡ true → k ≤ n) where
    locks_are : p.locks ≡ n
    locks_are =
        let below : p.locks ≤ n = most p.locks locks_within first_are in
        let above : n ≤ p.locks = elim (cases_lt p.locks (length plan)) [
          | inl l ↦ ends_at is_lock plan n p.locks Commit l locks (next l)
          | inr g ↦ omega (arith, g, within)
        ] in
        omega (arith, below, above)

    -- so a path is found where there is one
    module _ (m : ℕ) (inside : m ≤ length (drop n plan)) (none : list_any is_lock (drop m (drop n plan)) ≡ false) (least : (k : ℕ) → list_any is_lock (drop k (drop n plan)) ≡ false → m ≤ k) where
      late_least : m ≤ p.late
      late_least = least p.late (subst (λ k. list_any is_lock (drop p.late (drop k plan)) ≡ false) locks_are path.others)

      pub path_is_found : (e : ℕ) (mode : ReadMode) (extra : Bool) → p.edge ≡ e → IsLockedFirst spec op plan (record { edge = e; mode = mode; locks = n; late = m; extra_alone = extra })
      path_is_found e mode extra same =
          let long : length (drop n plan) ≡ _ = length-drop n plan in
          record {
            edge = subst (λ k. k < length spec.edges) same path.edge;
            within = omega (arith, inside, long, within);
            first = subst (λ k. list_all (is_given_lock spec (given_columns spec op)) (take k plan) ≡ true) locks_are path.first;
            late = fewer_late op.kind e m p.late (drop n plan) late_least
                (subst (λ k. MayBeLate op.kind k (take p.late (drop n plan))) same (subst (λ k. MayBeLate op.kind p.edge (take p.late (drop k plan))) locks_are path.late));
            others = none;
            last = least;
            locked = subst (λ k. list_any (is_lock_of (class_of spec e)) (take k plan) ≡ true) locks_are (subst (λ k. list_any (is_lock_of (class_of spec k)) (take p.locks plan) ≡ true) same path.locked);
            striped = subst (λ k. Within (class_at spec (class_of spec k)).cols (pattern_columns op)) same path.striped;
          }
