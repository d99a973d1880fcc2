-- A state that goes on from a history is good, and what follows it too.
use Rattle.std.proofs.Common.{◌≡◌, ◌⊎◌, ℕ, zero, suc, ◌+◌, ◌<◌, ◌≤◌, ◌^◌, List, [], ◌∷◌, map, length, Some, false, inl, inr, sym, refl, ap, ◌∙◌, subst, arith}
use Rattle.rc_core.specs.Imports.{replicate, range_with_len, slice_get, has, Spec, empty_law, stripe_total, SpecWithPlans, Entry, histories_stay, own_placed, none_own, own_length, own_stands, prefix_again, prefix_same, IsPrefix}
use Rattle.std.proofs.lemmas.Bool.{cases_lt}
use Rattle.std.proofs.lemmas.List.{length-map}
use Rattle.std.proofs.lemmas.List.FromFn.{length-range_with_len}
use Rattle.std.proofs.lemmas.Option.{slice_get_within}
use Rattle.rc_core.specs.declared.event.Event.{Event}
use Rattle.rc_core.specs.declared.event.Event.TheVariants as event
use Rattle.rc_core.specs.declared.state.CoreState.{CoreState}
use Rattle.rc_core.specs.declared.state.Keeper.TheVariants.{Home}
use Rattle.rc_core.specs.declared.state.StripeState.{StripeState}
use Rattle.rc_core.specs.Events.{after, after_all}
use Rattle.rc_core.specs.Good.{IsGood, IsGoodHistory, IsGoodPass, IsGoodStripe}
use Rattle.rc_core.specs.Resumed.{EventsAddToHistory, GoesOnWithMore, MayGoOn, ResumedAreGood, ResumedRunsAreSound, StartsAreResumed, free_stripe, rested, resumed}
use Rattle.rc_core.specs.RunLaws.{good_is_sound, runs_keep}
use Rattle.rc_core.specs.State.{is_writer, no_stripe, stripe_at}

-- ---- lists over ranges

-- what stands at the place k of what is made of a range
pub made_at : {A : Type 0} (f : ℕ → A) (a n k : ℕ) (x : A) → slice_get (map f (range_with_len a n)) k ≡ Some x → x ≡ f (a + k)
made_at f a zero k x e = cc
made_at f a (suc n) zero x e = let is : f a ≡ x = cc in sym is ∙ ap f (omega arith)
made_at f a (suc n) (suc k) x e = made_at f (a + 1) n k x e ∙ ap f (omega arith)

pub made_there : {A : Type 0} (f : ℕ → A) (a n k : ℕ) → k < n → slice_get (map f (range_with_len a n)) k ≡ Some (f (a + k))
made_there f a zero k lt = absurd (omega (arith, lt))
made_there f a (suc n) zero lt = ap (λ i. Some (f i)) (omega arith)
made_there f a (suc n) (suc k) lt = made_there f (a + 1) n k (omega (arith, lt)) ∙ ap (λ i. Some (f i)) (omega arith)

pub stripe_of_range : (f : ℕ → StripeState) (a n p : ℕ) → p < n → stripe_at (map f (range_with_len a n)) p ≡ f (a + p)
stripe_of_range f a zero p lt = absurd (omega (arith, lt))
stripe_of_range f a (suc n) zero lt = ap f (omega arith)
stripe_of_range f a (suc n) (suc p) lt = stripe_of_range f (a + 1) n p (omega (arith, lt)) ∙ ap f (omega arith)

-- a stripe beyond all is free too
each_free : (P : StripeState → Type 0) (f : ℕ → StripeState) → ((p : ℕ) → P (f p)) → P no_stripe → (a n p : ℕ) → P (stripe_at (map f (range_with_len a n)) p)
each_free P f each none a zero p = none
each_free P f each none a (suc n) zero = each a
each_free P f each none a (suc n) (suc p) = each_free P f each none (a + 1) n p

same_made : {A : Type 0} (f g : ℕ → A) → ((k : ℕ) → f k ≡ g k) → (a n : ℕ) → map f (range_with_len a n) ≡ map g (range_with_len a n)
same_made f g same a zero = refl
same_made f g same a (suc n) = let first : f a ≡ g a = same a in let rest = same_made f g same (a + 1) n in λ i. first i ∷ rest i

all_the_same : {A : Type 0} (x : A) (a n : ℕ) → replicate n x ≡ map (λ (k : ℕ). x) (range_with_len a n)
all_the_same x a zero = refl
all_the_same x a (suc n) = ap (λ l. x ∷ l) (all_the_same x (a + 1) n)

-- ---- what goes on is good

module _ (compiled : SpecWithPlans) (passes : ℕ) (history : List Entry) (may : MayGoOn compiled.spec passes history) where
  abbrev stripes : List StripeState
  stripes = map (free_stripe compiled.spec history) (range_with_len 0 (stripe_total compiled.spec))

  abbrev is_free : ℕ → StripeState
  is_free = free_stripe compiled.spec history

  rested_is_good : (k : ℕ) → k < passes → IsGoodPass compiled.spec history stripes k (rested history k)
  rested_is_good k lt = record {
    number = refl;
    writes = λ p. sym (each_free (λ (s : StripeState). is_writer s.keeper k ≡ false) is_free (λ q. refl) refl 0 (stripe_total compiled.spec) p);
    counts = λ p. sym (each_free (λ (s : StripeState). has s.counted k ≡ false) is_free (λ q. refl) refl 0 (stripe_total compiled.spec) p);
    beside = λ p m. absurd m;
    rows = λ h m. absurd m;
    own = refl;
    few = may.few k lt;
    seen = omega arith;
    sees_own = λ x m. slice_get_within history x.place x.entry ((own_stands history k x).0 m).0;
    wish = λ p e. cc;
    turning = λ p e. cc;
  }

  count : length (map (rested history) (range_with_len 0 passes)) ≡ passes
  count = length-map (range_with_len 0 passes) (rested history) ∙ length-range_with_len 0 passes

  wide : length stripes ≡ stripe_total compiled.spec
  wide = length-map (range_with_len 0 (stripe_total compiled.spec)) is_free ∙ length-range_with_len 0 (stripe_total compiled.spec)

  stripe_is_good : (p : ℕ) → p < length stripes → IsGoodStripe compiled.spec history (length (map (rested history) (range_with_len 0 passes))) p (stripe_at stripes p)
  stripe_is_good p lt =
      subst (IsGoodStripe compiled.spec history (length (map (rested history) (range_with_len 0 passes))) p)
      (sym (stripe_of_range is_free 0 (stripe_total compiled.spec) p (subst (λ n. p < n) wide lt) ∙ ap is_free (omega arith)))
      (record { keeper = refl; rising = tt; known = λ k m. absurd m })

  resumed_is_good : IsGood compiled.spec (resumed compiled passes history)
  resumed_is_good = record {
    passes = λ k u e. subst (IsGoodPass compiled.spec history stripes k) (sym (made_at (rested history) 0 passes k u e ∙ ap (rested history) (omega arith)))
        (rested_is_good k (subst (λ n. k < n) count (slice_get_within (map (rested history) (range_with_len 0 passes)) k u e)));
    stripes = stripe_is_good;
    history = subst (λ n. IsGoodHistory compiled.spec n history) (sym count) may.good;
    some_pass = subst (λ n. 1 ≤ n) (sym count) may.some_pass;
    few_passes = subst (λ n. n ≤ 255) (sym count) may.few_passes;
    all_stripes = wide;
  }

pub resumed_good : ResumedAreGood
resumed_good compiled passes history may = resumed_is_good compiled passes history may

pub starts_are_resumed : StartsAreResumed
starts_are_resumed compiled passes =
    let stripes : replicate (stripe_total compiled.spec) no_stripe ≡ map (free_stripe compiled.spec []) (range_with_len 0 (stripe_total compiled.spec)) =
    all_the_same no_stripe 0 (stripe_total compiled.spec)
    ∙ same_made (λ (p : ℕ). no_stripe) (free_stripe compiled.spec []) (λ p. let e = empty_law compiled.spec p in λ i. record { keeper = Home (sym e i); counted = [] }) 0 (stripe_total compiled.spec) in
    λ i. record { history = []; stripes = stripes i; passes = map (rested []) (range_with_len 0 passes) }

-- ---- with further operations

pub goes_on_with_more : GoesOnWithMore
goes_on_with_more earlier later passes history extends may =
    let stays = (histories_stay earlier later extends).1 history may.good.fit in record {
      some_pass = may.some_pass;
      few_passes = may.few_passes;
      good = record { legal = stays.legal may.good.legal; fit = stays.fit; numbered = may.good.numbered; entries = may.good.entries };
      few = may.few;
    }

-- ---- with further passes

pub goes_on_with_passes : (spec : Spec) (passes more : ℕ) (history : List Entry) → MayGoOn spec passes history → passes ≤ more → more ≤ 255 → MayGoOn spec more history
goes_on_with_passes spec passes more history may wide few = record {
  some_pass = (let s = may.some_pass in omega (arith, s, wide));
  few_passes = few;
  good = record {
    legal = may.good.legal;
    fit = may.good.fit;
    numbered = may.good.numbered;
    entries = λ e m. (let g = may.good.entries e m in let lt = g.pass in record { pass = omega (arith, lt, wide); some = g.some; few = g.few });
  };
  few = λ k lt. short k (cases_lt k passes);
}
  where
    short : (k : ℕ) → (k < passes) ⊎ (passes ≤ k) → length (own_placed history k) ≤ 2 ^ 48
    short k (inl lt) = may.few k lt
    short k (inr beyond) =
        let n = own_length history k in
        let z = none_own history passes k (λ e m. (may.good.entries e m).pass) beyond in
        omega (arith, n, z)

-- ---- what follows

event_adds : (compiled : SpecWithPlans) (c : CoreState) (x : Event) → IsPrefix c.history (after compiled c x).history
event_adds compiled c (event.Lock k p) = prefix_same c.history
event_adds compiled c (event.Block k p) = prefix_same c.history
event_adds compiled c (event.Share k p) = prefix_same c.history
event_adds compiled c (event.Back k p) = prefix_same c.history
event_adds compiled c (event.Leave k p) = prefix_same c.history
event_adds compiled c (event.Commit k e) = (e ∷ [], refl)
event_adds compiled c (event.Unlock k p) = prefix_same c.history
event_adds compiled c (event.Learn k n) = prefix_same c.history

pub events_add : EventsAddToHistory
events_add compiled c [] = prefix_same c.history
events_add compiled c (x ∷ events) =
    prefix_again c.history (after compiled c x).history (after_all compiled (after compiled c x) events).history (event_adds compiled c x) (events_add compiled (after compiled c x) events)

pub resumed_runs : ResumedRunsAreSound
resumed_runs compiled ok passes history may events allowed =
    good_is_sound compiled.spec (after_all compiled (resumed compiled passes history) events)
    (runs_keep compiled ok (resumed compiled passes history) (resumed_good compiled passes history may) events allowed)
