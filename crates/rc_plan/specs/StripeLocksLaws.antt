-- Laws of stripes and of their locks.
use Rattle.std.specs.Prelude.{◌≡◌, ℕ, zero, suc, ◌+◌, ◌<◌, ◌≤◌, List, ◌++◌, map, length, ◌↔◌}
use Rattle.rc_plan.specs.Imports.{range_with_len, Equal, nat_cmp, In, gather, IsOrder, in_gather, gather_in, in_map, map_in, in_append, append_in_left, append_in_right, nat_order, Within, Pairs, cols_of, Agree, agrees_to, then_equal, Mode, Shared, Exclusive, Spec, IsAdequate, class_at, class_of, IsPlaced, band_start, physical_stripe, agreeing_law, stripe_in_band, band_before, target_columns, StripeLock, Suffices, in_range_bounds}
use Rattle.std.proofs.Common.{inl, inr, refl, sym, ap, subst, arith}
use Rattle.std.proofs.lemmas.Bool.{cases_eq}
use Rattle.std.proofs.lemmas.Cmp.{nat_cmp_total, then_total, on_total}
use Rattle.rc_plan.specs.StripeLocks.{mode_number, stripe_lock_cmp, stripes_of, AreHeld, band, AreIn, IsOfClass}

-- ---- the order of locks

same_mode : (a b : Mode) → mode_number a ≡ mode_number b → a ≡ b
same_mode Shared Shared e = refl
same_mode Shared Exclusive e = absurd (omega (arith, e))
same_mode Exclusive Shared e = absurd (omega (arith, e))
same_mode Exclusive Exclusive e = refl

stripe_lock_ties : (a b : StripeLock) → stripe_lock_cmp a b ≡ Equal → a ≡ b
stripe_lock_ties a b e =
    let f : (nat_cmp a.0 b.0 ≡ Equal) × (nat_cmp (mode_number a.1) (mode_number b.1) ≡ Equal) = then_equal (nat_cmp a.0 b.0) (nat_cmp (mode_number a.1) (mode_number b.1)) e in
    let stripe : a.0 ≡ b.0 = nat_order.ties a.0 b.0 f.0 in
    let mode : a.1 ≡ b.1 = same_mode a.1 b.1 (nat_order.ties (mode_number a.1) (mode_number b.1) f.1) in λ i. (stripe i, mode i)

pub stripe_lock_order : IsOrder stripe_lock_cmp
stripe_lock_order = record {
  total = then_total (on_total (λ (a : StripeLock). a.0) nat_cmp_total) (on_total (λ (a : StripeLock). mode_number a.1) nat_cmp_total);
  ties = stripe_lock_ties;
}

-- ---- stripes that are named

pub in_stripes_of : (stripe : ℕ) (locks : List StripeLock) → In stripe (stripes_of locks) → (lock : StripeLock) × In lock locks × (stripe ≡ lock.0)
in_stripes_of stripe locks h = in_map (λ (lock : StripeLock). lock.0) stripe locks h

pub stripes_of_in : (lock : StripeLock) (locks : List StripeLock) → In lock locks → In lock.0 (stripes_of locks)
stripes_of_in lock locks h = map_in (λ (lock : StripeLock). lock.0) lock locks h

-- what was named stays so, and what a Lock names is named
pub named_before : (stripe : ℕ) (locks more : List StripeLock) → In stripe (stripes_of locks) → In stripe (stripes_of (gather stripe_lock_cmp (locks ++ more)))
named_before stripe locks more h =
    let q : (lock : StripeLock) × In lock locks × (stripe ≡ lock.0) = in_stripes_of stripe locks h in
    subst (λ z. In z (stripes_of (gather stripe_lock_cmp (locks ++ more)))) (sym q.2)
    (stripes_of_in q.0 (gather stripe_lock_cmp (locks ++ more)) (gather_in stripe_lock_cmp stripe_lock_order q.0 (locks ++ more) (append_in_left q.0 locks more q.1)))

pub named_now : (stripe : ℕ) (locks : List StripeLock) (mode : Mode) (stripes : List ℕ) → In stripe stripes
    → In stripe (stripes_of (gather stripe_lock_cmp (locks ++ map (λ s. (s, mode)) stripes)))
named_now stripe locks mode stripes h =
    let more : List StripeLock = map (λ s. (s, mode)) stripes in
    let lock : StripeLock = (stripe, mode) in
    stripes_of_in lock (gather stripe_lock_cmp (locks ++ more))
    (gather_in stripe_lock_cmp stripe_lock_order lock (locks ++ more) (append_in_right lock locks more (map_in (λ s. let l : StripeLock = (s, mode) in l) stripe stripes h)))

pub AreIn-more : (mode : Mode) (locks : List StripeLock) (stripes : List ℕ) → AreIn mode locks
    → AreIn mode (gather stripe_lock_cmp (locks ++ map (λ s. (s, mode)) stripes))
AreIn-more mode locks stripes f lock m = elim (in_append lock locks (map (λ s. (s, mode)) stripes) (in_gather stripe_lock_cmp stripe_lock_order lock (locks ++ map (λ s. (s, mode)) stripes) m)) [
  | inl n ↦ f lock n
  | inr n ↦ let q : (s : ℕ) × In s stripes × (lock ≡ (s, mode)) = in_map (λ s. (s, mode)) lock stripes n in ap (λ (l : StripeLock). l.1) q.2
]

-- where all are taken in one mode, a stripe that isn't named in it isn't named
pub not_named : (mode : Mode) (locks : List StripeLock) (stripe : ℕ) → AreIn mode locks → (In (stripe, mode) locks → ⊥) → In stripe (stripes_of locks) → ⊥
not_named mode locks stripe f g h =
    let q : (lock : StripeLock) × In lock locks × (stripe ≡ lock.0) = in_stripes_of stripe locks h in
    let m : mode ≡ q.0.1 = sym (f q.0 q.1) in
    g (subst (λ (l : StripeLock). In l locks) (λ i. (sym q.2 i, sym m i)) q.1)

-- ---- stripes that are held

pub held_stripes : (locks held : List StripeLock) → AreHeld locks held → Within (stripes_of locks) (stripes_of held)
held_stripes locks held f stripe h =
    let q : (lock : StripeLock) × In lock locks × (stripe ≡ lock.0) = in_stripes_of stripe locks h in
    let m : (mode : Mode) × In (q.0.0, mode) held × Suffices mode q.0.1 = f q.0 q.1 in
    subst (λ z. In z (stripes_of held)) (sym q.2) (stripes_of_in (q.0.0, m.0) held m.1)

exclusive_suffices : (mode : Mode) → Suffices mode Exclusive → mode ≡ Exclusive
exclusive_suffices Shared h = absurd h
exclusive_suffices Exclusive h = refl

-- what is named Exclusive is held Exclusive
pub held_exclusive : (locks held : List StripeLock) → AreHeld locks held → (stripe : ℕ) → In (stripe, Exclusive) locks → In (stripe, Exclusive) held
held_exclusive locks held f stripe h =
    let m : (mode : Mode) × In (stripe, mode) held × Suffices mode Exclusive = f (stripe, Exclusive) h in
    subst (λ (mode : Mode). In (stripe, mode) held) (exclusive_suffices m.0 m.2) m.1

-- ---- stripes of a class

in_range_from : (k n c : ℕ) → k ≤ c → c < k + n → In c (range_with_len k n)
in_range_from k n c a b = go n k a b
  where
    go : (n k : ℕ) → k ≤ c → c < k + n → In c (range_with_len k n)
    go zero k a b = absurd (omega arith)
    go (suc n) k a b = elim (cases_eq c k) [ inl e ↦ inl e | inr f ↦ inr (go n (k + 1) (omega (arith, f)) (omega arith)) ]

-- the list has exactly the stripes of the class
pub band_of_class : (spec : Spec) (stripe c : ℕ) → In stripe (band spec c) ↔ IsOfClass spec stripe c
band_of_class spec stripe c = (
  λ m. let b : (band_start spec c ≤ stripe) × (stripe < band_start spec c + (class_at spec c).stripes) = in_range_bounds (band_start spec c) (class_at spec c).stripes stripe m in
      record { from = b.0; before = b.1 },
  λ of. in_range_from (band_start spec c) (class_at spec c).stripes stripe of.from of.before,
)

pub IsOfClass-physical_stripe : (spec : Spec) → IsPlaced spec → (c : ℕ) (t : Pairs) → c < length spec.classes → IsOfClass spec (physical_stripe spec c t) c
IsOfClass-physical_stripe spec placed c t l = record { from = omega arith; before = stripe_in_band spec c t (placed.p6 c l).some }

-- a stripe of a class is of no later one
pub of_one_class : (spec : Spec) (c d stripe : ℕ) → c < d → d < length spec.classes → IsOfClass spec stripe c → IsOfClass spec stripe d → ⊥
of_one_class spec c d stripe l m a b =
    let k : band_start spec c + (class_at spec c).stripes ≤ band_start spec d = band_before spec c d l m in
    omega (arith, a.before, b.from, k)

-- tuples that agree and have the class's columns fall on one stripe
pub physical_stripe-agreeing : (spec : Spec) (c : ℕ) (t u : Pairs) → Within (class_at spec c).cols (cols_of t)
    → Within (class_at spec c).cols (cols_of u) → Agree t u → physical_stripe spec c t ≡ physical_stripe spec c u
physical_stripe-agreeing spec c t u a b f = agreeing_law spec c t u a b (agrees_to t u f)

pub physical_stripe-in_band : (spec : Spec) → IsPlaced spec → (c : ℕ) (t : Pairs) → c < length spec.classes → In (physical_stripe spec c t) (band spec c)
physical_stripe-in_band spec placed c t l = (band_of_class spec (physical_stripe spec c t) c).1 (IsOfClass-physical_stripe spec placed c t l)

-- the columns that choose the stripe of an edge's rows are columns of its target
pub striping_in_target : (spec : Spec) → IsAdequate spec → IsPlaced spec → (e : ℕ) → e < length spec.edges
    → Within (class_at spec (class_of spec e)).cols (target_columns spec e)
striping_in_target spec ok placed e l c h = (ok.a3 e l).inside c (placed.p2 e l c h)
