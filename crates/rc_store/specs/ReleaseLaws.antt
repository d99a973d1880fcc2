-- What is kept of what a pass holds, and that giving the rest back stripe by stripe leads there.
use Rattle.std.specs.Prelude.{◌≡◌, ℕ, zero, suc, ◌+◌, ◌<◌, ◌≤◌, ◌==◌, ◌⊎◌, Bool, true, false, not, cond, List, [], ◌∷◌, All, Some, get_or, length, take}
use Rattle.rc_store.specs.Imports.{nat_cmp, Less, slice_get, In, IsRising, in_append, nat_order, not_below_itself, Call, StripeLock, FragmentRows, SpecWithPlans, plan_at, IsOfClassLocked, other_holds, Hold, hold, locks_of, stripes_held, IsUsedBy, HeldRows, OfHeld, PassSeen, core_of, held_without, holds_taken, without_stripe, IsHeldSo, with_core}
use Rattle.std.proofs.Common.{refl, sym, ap, subst, ◌∙◌, inl, inr, arith}
use Rattle.std.proofs.lemmas.Bool.{eq-eqb, ne_eqb}
use Rattle.std.proofs.lemmas.List.{take_more}
use Rattle.std.proofs.lemmas.List.Elements.{All-cons, All-nil}
use Rattle.rc_store.specs.Lending.{held_stripes}
use Rattle.rc_store.specs.OpenGroups.{AreUnchangedBut, KeepsNeeded, holding}

-- ---- stripes that are held

abbrev stripes : List HeldRows → List ℕ
stripes held = stripes_held (held_stripes held)

pub stripe_in : (x : HeldRows) (held : List HeldRows) → In x held → In x.stripe (stripes held)
stripe_in x [] m = absurd m
stripe_in x (h ∷ held) m = elim m [
  | inl e ↦ inl (ap (λ (y : HeldRows). y.stripe) e)
  | inr q ↦ inr (stripe_in x held q)
]

pub stripe_from : (p : ℕ) (held : List HeldRows) → In p (stripes held) → (x : HeldRows) × In x held × (p ≡ x.stripe)
stripe_from p [] m = absurd m
stripe_from p (h ∷ held) m = elim m [
  | inl e ↦ (h, inl refl, e)
  | inr q ↦ let w = stripe_from p held q in (w.0, inr w.1, w.2)
]

-- the lock at a place is that of what is held there
pub lock_at : (held : List HeldRows) (n : ℕ) (d : HeldRows) (none : StripeLock) → n < length held
    → get_or (locks_of (held_stripes held)) n none ≡ ((get_or held n d).stripe, (get_or held n d).mode)
lock_at [] n d none l = absurd (omega (arith, l))
lock_at (h ∷ held) zero d none l = refl
lock_at (h ∷ held) (suc n) d none l = lock_at held n d none (omega (arith, l))

pub as_many_locks : (held : List HeldRows) → length (locks_of (held_stripes held)) ≡ length held
as_many_locks [] = refl
as_many_locks (h ∷ held) = ap suc (as_many_locks held)

-- what isn't held isn't taken out
none_gone : (p : ℕ) (held : List HeldRows) → (In p (stripes held) → ⊥) → held_without held p ≡ held
none_gone p [] none = refl
none_gone p (h ∷ held) none =
    ap (λ (b : Bool). cond (not b) (h ∷ held_without held p) (held_without held p)) (ne_eqb h.stripe p (λ e. none (inl (sym e))))
    ∙ ap (λ (hs : List HeldRows). h ∷ hs) (none_gone p held (λ m. none (inr m)))

-- ---- those that are needed

module _ (needed : ℕ → Type 0) (decide : (p : ℕ) → needed p ⊎ (needed p → ⊥)) where
  abbrev pick : (p : ℕ) → needed p ⊎ (needed p → ⊥) → HeldRows → List HeldRows → List HeldRows
  pick p (inl need) h held = h ∷ held
  pick p (inr none) h held = held

  -- of the first n those that are needed, and all others
  abbrev pub kept_until : ℕ → List HeldRows → List HeldRows
  kept_until zero held = held
  kept_until (suc n) [] = []
  kept_until (suc n) (h ∷ held) = pick h.stripe (decide h.stripe) h (kept_until n held)

  -- ---- one pick

  picked_yes : (p : ℕ) (d : needed p ⊎ (needed p → ⊥)) (h : HeldRows) (held : List HeldRows) → needed p → pick p d h held ≡ h ∷ held
  picked_yes p (inl need) h held n = refl
  picked_yes p (inr none) h held n = absurd (none n)

  picked_no : (p : ℕ) (d : needed p ⊎ (needed p → ⊥)) (h : HeldRows) (held : List HeldRows) → (needed p → ⊥) → pick p d h held ≡ held
  picked_no p (inl need) h held out = absurd (out need)
  picked_no p (inr none) h held out = refl

  in_pick : (p : ℕ) (d : needed p ⊎ (needed p → ⊥)) (h x : HeldRows) (held : List HeldRows) → In x (pick p d h held) → ((x ≡ h) × needed p) ⊎ In x held
  in_pick p (inl need) h x held m = elim m [
    | inl e ↦ inl (e, need)
    | inr q ↦ inr q
  ]
  in_pick p (inr none) h x held m = inr m

  rest_picked : (p : ℕ) (d : needed p ⊎ (needed p → ⊥)) (h x : HeldRows) (held : List HeldRows) → In x held → In x (pick p d h held)
  rest_picked p (inl need) h x held m = inr m
  rest_picked p (inr none) h x held m = m

  here_picked : (p : ℕ) (d : needed p ⊎ (needed p → ⊥)) (h : HeldRows) (held : List HeldRows) → needed p → In h (pick p d h held)
  here_picked p (inl need) h held n = inl refl
  here_picked p (inr none) h held n = absurd (none n)

  without_picked : (q p : ℕ) (d : needed q ⊎ (needed q → ⊥)) (h : HeldRows) (held : List HeldRows) → (h.stripe ≡ p → ⊥) → held_without (pick q d h held) p ≡ pick q d h (held_without held p)
  without_picked q p (inl need) h held other =
      ap (λ (b : Bool). cond (not b) (h ∷ held_without held p) (held_without held p)) (ne_eqb h.stripe p other)
  without_picked q p (inr none) h held other = refl

  -- ---- all of them

  pub until_inside : (n : ℕ) (held : List HeldRows) (x : HeldRows) → In x (kept_until n held) → In x held
  until_inside zero held x m = m
  until_inside (suc n) [] x m = m
  until_inside (suc n) (h ∷ held) x m = elim (in_pick h.stripe (decide h.stripe) h x (kept_until n held) m) [
    | inl e ↦ inl e.0
    | inr q ↦ inr (until_inside n held x q)
  ]

  pub until_each : (n : ℕ) (held : List HeldRows) (x : HeldRows) → In x held → needed x.stripe → In x (kept_until n held)
  until_each zero held x m need = m
  until_each (suc n) [] x m need = m
  until_each (suc n) (h ∷ held) x m need = elim m [
    | inl e ↦
        subst (λ (y : HeldRows). In y (kept_until (suc n) (h ∷ held))) (sym e)
        (here_picked h.stripe (decide h.stripe) h (kept_until n held) (subst (λ (y : HeldRows). needed y.stripe) e need))
    | inr q ↦ rest_picked h.stripe (decide h.stripe) h x (kept_until n held) (until_each n held x q need)
  ]

  pub until_only : (n : ℕ) (held : List HeldRows) (x : HeldRows) → length held ≤ n → In x (kept_until n held) → needed x.stripe
  until_only zero [] x l m = absurd m
  until_only zero (h ∷ held) x l m = absurd (omega (arith, l))
  until_only (suc n) [] x l m = absurd m
  until_only (suc n) (h ∷ held) x l m = elim (in_pick h.stripe (decide h.stripe) h x (kept_until n held) m) [
    | inl e ↦ subst (λ (y : HeldRows). needed y.stripe) (sym e.0) e.1
    | inr q ↦ until_only n held x (omega (arith, l)) q
  ]

  stripes_inside : (n : ℕ) (held : List HeldRows) (p : ℕ) → In p (stripes (kept_until n held)) → In p (stripes held)
  stripes_inside n held p m =
      let w = stripe_from p (kept_until n held) m in
      subst (λ (q : ℕ). In q (stripes held)) (sym w.2) (stripe_in w.0 held (until_inside n held w.0 w.1))

  rising_picked : (q : ℕ) (d : needed q ⊎ (needed q → ⊥)) (h : HeldRows) (held : List HeldRows) → IsRising nat_cmp (stripes (h ∷ held)) → IsRising nat_cmp (stripes (pick q d h held))
  rising_picked q (inl need) h held r = r
  rising_picked q (inr none) h held r = r.1

  pub until_rising : (n : ℕ) (held : List HeldRows) → IsRising nat_cmp (stripes held) → IsRising nat_cmp (stripes (kept_until n held))
  until_rising zero held r = r
  until_rising (suc n) [] r = r
  until_rising (suc n) (h ∷ held) r =
      rising_picked h.stripe (decide h.stripe) h (kept_until n held) ((λ p m. r.0 p (stripes_inside n held p m)), until_rising n held r.1)

  pub until_keeps : (n : ℕ) (held : List HeldRows) → length held ≤ n → IsRising nat_cmp (stripes held) → KeepsNeeded needed held (kept_until n held)
  until_keeps n held l r = record {
    inside = until_inside n held;
    each = until_each n held;
    only = λ x m. until_only n held x l m;
    rising = until_rising n held r;
  }

  -- ---- from stripe to stripe

  -- the next is there
  pub until_there : (n : ℕ) (held : List HeldRows) (d : HeldRows) → n < length held → In (get_or held n d) (kept_until n held)
  until_there n [] d l = absurd (omega (arith, l))
  until_there zero (h ∷ held) d l = inl refl
  until_there (suc n) (h ∷ held) d l =
      rest_picked h.stripe (decide h.stripe) h (get_or held n d) (kept_until n held) (until_there n held d (omega (arith, l)))

  -- it stays where it is needed
  pub until_needed : (n : ℕ) (held : List HeldRows) (d : HeldRows) → n < length held → needed (get_or held n d).stripe → kept_until (suc n) held ≡ kept_until n held
  until_needed n [] d l need = absurd (omega (arith, l))
  until_needed zero (h ∷ held) d l need = picked_yes h.stripe (decide h.stripe) h held need
  until_needed (suc n) (h ∷ held) d l need =
      ap (λ (hs : List HeldRows). pick h.stripe (decide h.stripe) h hs) (until_needed n held d (omega (arith, l)) need)

  above_first : (h : HeldRows) (held : List HeldRows) (n : ℕ) (d : HeldRows) → n < length held → IsRising nat_cmp (stripes (h ∷ held)) → h.stripe ≡ (get_or held n d).stripe → ⊥
  above_first h held n d l r e =
      let m : In (get_or held n d).stripe (stripes held) = stripe_in (get_or held n d) held (there held n l) in
      let q : ℕ = (get_or held n d).stripe in
      let below : nat_cmp q q ≡ Less = subst (λ (p : ℕ). nat_cmp p q ≡ Less) e (r.0 q m) in
      not_below_itself nat_cmp nat_order q q below below
    where
      there : (hs : List HeldRows) (i : ℕ) → i < length hs → In (get_or hs i d) hs
      there [] i k = absurd (omega (arith, k))
      there (x ∷ hs) zero k = inl refl
      there (x ∷ hs) (suc i) k = inr (there hs i (omega (arith, k)))

  -- and is the one that goes where it isn't
  pub until_gone : (n : ℕ) (held : List HeldRows) (d : HeldRows) → n < length held → IsRising nat_cmp (stripes held) → (needed (get_or held n d).stripe → ⊥)
      → held_without (kept_until n held) (get_or held n d).stripe ≡ kept_until (suc n) held
  until_gone n [] d l r none = absurd (omega (arith, l))
  until_gone zero (h ∷ held) d l r none =
      ap (λ (b : Bool). cond (not b) (h ∷ held_without held h.stripe) (held_without held h.stripe)) (eq-eqb h.stripe h.stripe refl)
      ∙ none_gone h.stripe held (λ m. not_below_itself nat_cmp nat_order h.stripe h.stripe (r.0 h.stripe m) (r.0 h.stripe m))
      ∙ sym (picked_no h.stripe (decide h.stripe) h held none)
  until_gone (suc n) (h ∷ held) d l r none =
      without_picked h.stripe (get_or held n d).stripe (decide h.stripe) h (kept_until n held) (above_first h held n d (omega (arith, l)) r)
      ∙ ap (λ (hs : List HeldRows). pick h.stripe (decide h.stripe) h hs) (until_gone n held d (omega (arith, l)) r.1 none)

  -- what is held by the lock at a place, and what becomes of it there
  pub record IsHeldAt (held : List HeldRows) (n : ℕ) (lock : StripeLock) : Type 0 where
    pub row : HeldRows
    pub lock_is : lock ≡ (row.stripe, row.mode)
    pub there : In row (kept_until n held)
    pub stays : needed row.stripe → kept_until (suc n) held ≡ kept_until n held
    pub goes : (needed row.stripe → ⊥) → held_without (kept_until n held) row.stripe ≡ kept_until (suc n) held

  pub held_at : (held : List HeldRows) (locks : List StripeLock) (n : ℕ) (none : StripeLock) → locks_of (held_stripes held) ≡ locks → IsRising nat_cmp (stripes held) → n < length locks
      → IsHeldAt held n (get_or locks n none)
  held_at held locks n none same rising l =
      let below : n < length held = subst (λ (m : ℕ). n < m) (ap (λ (ls : List StripeLock). length ls) (sym same) ∙ as_many_locks held) l in
      let d : HeldRows = some_row held n below in
      record {
        row = get_or held n d;
        lock_is = ap (λ (ls : List StripeLock). get_or ls n none) (sym same) ∙ lock_at held n d none below;
        there = until_there n held d below;
        stays = until_needed n held d below;
        goes = until_gone n held d below rising;
      }
    where
      some_row : (hs : List HeldRows) (m : ℕ) → m < length hs → HeldRows
      some_row [] m k = absurd (omega (arith, k))
      some_row (h ∷ hs) m k = h

-- ---- the pass

taken-without : (p : ℕ) (held : List HeldRows) → holds_taken (held_without held p) ≡ other_holds (holds_taken held) p
taken-without p [] = refl
taken-without p (h ∷ held) = go (taken-without p held) (not (h.stripe == p))
  where
    go : holds_taken (held_without held p) ≡ other_holds (holds_taken held) p → (b : Bool) → holds_taken (cond b (h ∷ held_without held p) (held_without held p)) ≡ cond b (hold h.stripe h.mode h.fragment.taken ∷ other_holds (holds_taken held) p) (other_holds (holds_taken held) p)
    go same true = ap (λ (hs : List Hold). hold h.stripe h.mode h.fragment.taken ∷ hs) same
    go same false = same

-- without a stripe it holds the others
pub without_holding : (p : ℕ) (kept : List HeldRows) (pass : PassSeen) → without_stripe p (holding kept pass) ≡ holding (held_without kept p) pass
without_holding p kept pass = λ i. record pass {
  standing = with_core pass.standing (record (core_of pass) { held = sym (taken-without p kept) i });
  held = held_without kept p;
}

each_so : (P : HeldRows → Type 0) (held : List HeldRows) → ((x : HeldRows) → In x held → P x) → All P held
each_so P [] f = All-nil P
each_so P (h ∷ held) f = All-cons P h held (f h (inl refl)) (each_so P held (λ x m. f x (inr m)))

-- a stripe that isn't needed has the rows as taken, however many were given back before it
pub unchanged_at : (needed : ℕ → Type 0) (p : ℕ) (held kept : List HeldRows) → AreUnchangedBut needed held → ((x : HeldRows) → In x kept → In x held) → (needed p → ⊥)
    → OfHeld kept p (λ (f : FragmentRows). f.now ≡ f.taken)
unchanged_at needed p held kept same inside none =
    each_so (λ (h : HeldRows). h.stripe ≡ p → h.fragment.now ≡ h.fragment.taken) kept
    (λ x m e. same x (inside x m) (λ need. none (subst needed e need)))

-- it is held as it was
pub held_so : (lock : StripeLock) (x : HeldRows) (kept now : List HeldRows) → now ≡ kept → In x kept → lock ≡ (x.stripe, x.mode) → IsHeldSo now lock.0 lock.1
held_so lock x kept now e m same = record {
  here = x;
  among = subst (In x) (sym e) m;
  stripe_is = sym (ap (λ (l : StripeLock). l.0) same);
  mode_is = sym (ap (λ (l : StripeLock). l.1) same);
}

-- ---- the loops that look for a stripe

-- one more call whose plan doesn't lock its class
pub none_used_more : (c : SpecWithPlans) (calls : List Call) (p n : ℕ) (call : Call) → n < length calls → slice_get calls n ≡ Some call → (IsUsedBy c (take n calls) p → ⊥)
    → (IsOfClassLocked c.spec (plan_at c.plans call.op) p → ⊥) → IsUsedBy c (take (n + 1) calls) p → ⊥
none_used_more c calls p n call l is before here u =
    elim (in_append u.0 (take n calls) (get_or calls n call ∷ []) (subst (In u.0) (take_more calls n call l) u.1)) [
      | inl a ↦ before (u.0, a, u.2)
      | inr (inl e) ↦ here (subst (λ (x : Call). IsOfClassLocked c.spec (plan_at c.plans x.op) p) (e ∙ there calls n l is) u.2)
      | inr (inr z) ↦ absurd z
    ]
  where
    there : (cs : List Call) (i : ℕ) → i < length cs → slice_get cs i ≡ Some call → get_or cs i call ≡ call
    there [] i k q = absurd (omega (arith, k))
    there (x ∷ cs) zero k q = cc
    there (x ∷ cs) (suc i) k q = there cs i (omega (arith, k)) q

pub call_in : (calls : List Call) (n : ℕ) (call : Call) → n < length calls → slice_get calls n ≡ Some call → In call calls
call_in [] n call l q = absurd (omega (arith, l))
call_in (x ∷ calls) zero call l q = inl cc
call_in (x ∷ calls) (suc n) call l q = inr (call_in calls n call (omega (arith, l)) q)
