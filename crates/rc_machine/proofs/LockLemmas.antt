-- Stripes taken one after another, in rising order.
use Rattle.std.specs.Prelude.{◌≡◌, ℕ, zero, suc, ◌+◌, ◌<◌, ◌≤◌, List, [], ◌∷◌, ◌++◌, Option, None, Some, Result, Ok, Err, IfErr, IsErr, IsErrAnd, length, map, take, get_or}
use Rattle.rc_machine.proofs.Imports.{Less, nat_cmp, ranked, sum_by, map-append, take_all, sum_by_more_le, take-suc, in_range_bounds, Pairs, In, IsRising, get_or_in, in_map, map_in, in_append, Mode, Class, Spec, IsPlaced, class_at, no_class, stripes_of_first, physical_stripe_below, band_start, physical_stripe, stripe_total, Held, AreOffered, GoesOn, HasRefused, HasRisen, HasTaken, HasTakenNothing, HeldStripe, Holding, IsAbove, IsRefusal, LentStripe, RefusedTake, held_of, just_taken, offered_at, held-taken, risen_again, TakeStop, Which, stripes_locked, Stop, HasLocked, HasRefusedOne, stopped}
use Rattle.std.proofs.Common.{inl, inr, refl, sym, ap, subst, ◌∙◌, arith, add-one, append_assoc, append-nil}
use Rattle.rc_fragment.specs.Holder.{CountsIfHeld, CountsOnlyHeld}
use Rattle.rc_fragment.specs.declared.held.TakeStop.TheVariants as take_stop
use Rattle.rc_plan.specs.declared.statement.Which.TheVariants as which
use Rattle.rc_machine.specs.declared.stop.Stop.TheVariants as stop
use Rattle.rc_machine.specs.Stopped.{CountsIfHeld as CountsIfHeldStop, CountsOnlyHeld as CountsOnlyHeldStop}

pub less_from : (x y : ℕ) → nat_cmp x y ≡ Less → x < y
less_from x y e = ranked x y Less (sym e)

-- in a rising list the first elements are below the next
pub first_below : (xs : List ℕ) (i d x : ℕ) → IsRising nat_cmp xs → i < length xs → In x (take i xs) → x < get_or xs i d
first_below [] i d x r l m = absurd (omega arith)
first_below (y ∷ xs) zero d x r l m = absurd m
first_below (y ∷ xs) (suc i) d x r l m = elim m [
  | inl e ↦ less_from x (get_or xs i d) (subst (λ z. nat_cmp z (get_or xs i d) ≡ Less) (sym e) (r.0 (get_or xs i d) (get_or_in xs i d (omega arith))))
  | inr n ↦ first_below xs i d x r.1 (omega arith) n
]

pub locked_none : (s : Holding) (mode : Mode) → HasLocked s s [] mode
locked_none s mode = record {
  more = [];
  beside = sym (append-nil (held_of s));
  stripes_are = refl;
  modes = λ h m. absurd m;
  unchanged = λ h m. absurd m;
  told = λ h m. absurd m;
}

module _ (old mid : Holding) (stripes : List ℕ) (i : ℕ) (mode : Mode) (l : i < length stripes) (f : HasLocked old mid (take i stripes) mode) where
  -- the next stripe is above those of before and those taken
  pub next_above : IsRising nat_cmp stripes → ((s : ℕ) → In s stripes → IsAbove (held_of old) s) → IsAbove (held_of mid) (get_or stripes i 0)
  next_above r above h m = elim (in_append h (held_of old) f.more (subst (In h) f.beside m)) [
    | inl n ↦ above (get_or stripes i 0) (get_or_in stripes i 0 l) h n
    | inr n ↦ first_below stripes i 0 h.stripe r l (subst (In h.stripe) f.stripes_are (map_in (λ (h : HeldStripe). h.stripe) h f.more n))
  ]

  pub locked_more : (new : Holding) → GoesOn old mid → HasTaken mid new (get_or stripes i 0) mode → HasLocked old new (take (i + 1) stripes) mode
  locked_more new on t =
      let s : ℕ = get_or stripes i 0 in
      let now : HeldStripe = just_taken s mode t.rows in
      record {
        more = f.more ++ now ∷ [];
        beside = held-taken mid new s mode t ∙ ap (λ z. z ++ now ∷ []) f.beside ∙ append_assoc (held_of old) f.more (now ∷ []);
        stripes_are = map-append (λ (h : HeldStripe). h.stripe) f.more (now ∷ []) ∙ ap (λ z. z ++ s ∷ []) f.stripes_are ∙ sym (ap (λ k. take k stripes) (add-one i) ∙ take-suc stripes i 0 l);
        modes = λ h m. elim (in_append h f.more (now ∷ []) m) [
          | inl n ↦ f.modes h n
          | inr (inl e) ↦ ap (λ (h : HeldStripe). h.mode) e
          | inr (inr z) ↦ absurd z
        ];
        unchanged = λ h m. elim (in_append h f.more (now ∷ []) m) [
          | inl n ↦ f.unchanged h n
          | inr (inl e) ↦ ap (λ (h : HeldStripe). h.now) e ∙ sym (ap (λ (h : HeldStripe). h.taken) e)
          | inr (inr z) ↦ absurd z
        ];
        told = λ h m. elim (in_append h f.more (now ∷ []) m) [
          | inl n ↦ f.told h n
          | inr (inl e) ↦ subst (λ (h : HeldStripe). AreOffered (offered_at old h.stripe) h.taken) (sym e) (subst (λ offered. AreOffered (get_or offered s None) t.rows) on.offered t.told)
          | inr (inr z) ↦ absurd z
        ];
      }

-- ---- refused takes

-- a count that rose later rose
pub risen_since : (first old new : Holding) → GoesOn first old → HasRisen old.refusals new.refusals → HasRisen first.refusals new.refusals
risen_since first old new on r = elim on.refused [ inl same ↦ subst (λ n. HasRisen n new.refusals) same.0 r | inr risen ↦ risen_again first.refusals old.refusals new.refusals risen.0 r ]

refused_stripe : (last : Option RefusedTake) (answer : Held) (s : ℕ) (mode : Mode) (held : List HeldStripe) → IsRefusal last answer s mode held → answer.stripe ≡ s
refused_stripe None answer s mode held h = absurd h
refused_stripe (Some last) answer s mode held h = h.1

-- a refused take of one of some stripes
pub refused_one : (first old new : Holding) (stripes : List ℕ) (s : ℕ) (mode : Mode) (answer : Held) → GoesOn first old → HasTakenNothing old new → IsAbove (held_of old) s → In s stripes
    → HasRefused old new s mode answer → HasRefusedOne first new stripes mode answer
refused_one first old new stripes s mode answer on none above m r =
    let is : answer.stripe ≡ s = refused_stripe new.last_refusal answer s mode (held_of old) r.last in
    let same : held_of new ≡ held_of old = ap (map (λ (l : LentStripe). l.held)) none.lent in
    record {
      risen = risen_since first old new on r.risen;
      last = subst (λ z. IsRefusal new.last_refusal answer z mode (held_of new)) (sym is) (subst (IsRefusal new.last_refusal answer s mode) (sym same) r.last);
      above = subst (λ z. IsAbove (held_of new) z) (sym is) (subst (λ held. IsAbove held s) (sym same) above);
      wanted = subst (λ z. In z stripes) (sym is) m;
    }

-- ---- what a Lock names

-- each stripe that a Lock takes is one of all
pub locked_known : (spec : Spec) → IsPlaced spec → (c : ℕ) (choice : Which) (bs : List Pairs) → c < length spec.classes → (s : ℕ) → In s (stripes_locked spec c choice bs) → s < stripe_total spec
locked_known spec placed c which.Keyed bs l s m =
    let q : (b : Pairs) × In b bs × (s ≡ physical_stripe spec c b) = in_map (physical_stripe spec c) s bs m in
    subst (λ z. z < stripe_total spec) (sym q.2) (physical_stripe_below spec c q.0 placed l)
locked_known spec placed c which.All bs l s m =
    let b : (band_start spec c ≤ s) × (s < band_start spec c + (class_at spec c).stripes) = in_range_bounds (band_start spec c) (class_at spec c).stripes s m in
    let all : stripe_total spec ≡ sum_by (λ (class : Class). class.stripes) spec.classes = ap (sum_by (λ (class : Class). class.stripes)) (take_all (length spec.classes) spec.classes (omega arith)) in
    let k : stripes_of_first spec c + (class_at spec c).stripes ≤ sum_by (λ (class : Class). class.stripes) spec.classes = sum_by_more_le (λ (class : Class). class.stripes) spec.classes c no_class l in
    omega (arith, b.1, all, k)

memory_or_held : (h : Held) → stop.Held h ≡ stop.Memory → ⊥
memory_or_held h e = cc

same_held : (k h : Held) → stop.Held h ≡ stop.Held k → k ≡ h
same_held k h e = cc

-- a run that only want of memory stops is refused nothing
pub memory_alone : {T : Type 0} (r : Result T Stop) (h : Held) → IfErr r (λ s. s ≡ stop.Memory) → r ≡ Err (stop.Held h) → ⊥
memory_alone r h alone e = memory_or_held h (subst (λ (z : Result _ Stop). IfErr z (λ s. s ≡ stop.Memory)) e alone)

-- a stop that is Held came from a take that was
pub held_stop : (t : TakeStop) (h : Held) → stop.Held h ≡ stopped t → t ≡ take_stop.Held h
held_stop take_stop.Memory h e = absurd (memory_or_held h e)
held_stop (take_stop.Held k) h e = ap take_stop.Held (same_held k h e)

-- ---- counted takes

-- those counted since an earlier time, from which none was counted
pub counted_since : {T : Type 0} (r : Result T TakeStop) (first old new : Holding) → old.refusals ≡ first.refusals → CountsOnlyHeld r old new → CountsOnlyHeld r first new
counted_since (Ok x) first old new e counted = counted ∙ e
counted_since (Err take_stop.Memory) first old new e counted = counted ∙ e
counted_since (Err (take_stop.Held h)) first old new e counted = tt

pub counted_stop_since : {T : Type 0} (r : Result T Stop) (first old new : Holding) → old.refusals ≡ first.refusals → CountsOnlyHeldStop r old new → CountsOnlyHeldStop r first new
counted_stop_since (Ok x) first old new e counted = counted ∙ e
counted_stop_since (Err stop.Memory) first old new e counted = counted ∙ e
counted_stop_since (Err (stop.Held h)) first old new e counted = tt

-- of an error that is handed on
pub counted_on : {T : Type 0} (r : Result T TakeStop) (x : TakeStop) (old new : Holding) → IsErr r → IsErrAnd r (λ y. y ≡ x) → CountsIfHeld x old new → CountsOnlyHeld r old new
counted_on (Ok y) x old new is gives counted = absurd cc
counted_on (Err y) x old new is gives counted = subst (λ z. CountsIfHeld z old new) (sym gives) counted

pub counted_stop_on : {T : Type 0} (r : Result T Stop) (x : Stop) (old new : Holding) → IsErr r → IsErrAnd r (λ y. y ≡ x) → CountsIfHeldStop x old new → CountsOnlyHeldStop r old new
counted_stop_on (Ok y) x old new is gives counted = absurd cc
counted_stop_on (Err y) x old new is gives counted = subst (λ z. CountsIfHeldStop z old new) (sym gives) counted

-- and of a take that stopped a run
stop_counts : (t : TakeStop) (old new : Holding) → CountsIfHeld t old new → CountsIfHeldStop (stopped t) old new
stop_counts take_stop.Memory old new counted = counted
stop_counts (take_stop.Held h) old new counted = tt

pub counted_stopped : {T : Type 0} (r : Result T Stop) (t : TakeStop) (old new : Holding) → IsErr r → IsErrAnd r (λ y. y ≡ stopped t) → CountsIfHeld t old new → CountsOnlyHeldStop r old new
counted_stopped r t old new is gives counted = counted_stop_on r (stopped t) old new is gives (stop_counts t old new counted)
