-- A new table keeps the rule.
use Rattle.std.proofs.Common.{◌≡◌, ◌≢◌, ◌-◌, length-append, length-set, ℕ, zero, suc, ◌+◌, ◌*◌, ◌<◌, ◌≤◌, ◌==◌, Bool, false, List, [], ◌∷◌, ◌++◌, length, map, get_or, Some, None, sym, refl, ap, ◌∙◌, subst, inl, inr, arith}
use Rattle.rc_row.proofs.Imports.{slice_index, slice_set, replicate, filter_map, flat_map, slice_get, range_with_len, nat_cmp, nat_cmp_is, Less, false≢true, eq-eqb, ne_eqb, get_or-set_other, get_or-set_same, length-map, length-replicate, get_or_from_slice_get, length-map-range_with_len, has, In, IsRising, map_in, list_any_in, in_range_below, in_range_bounds, IsSealed, fragment_of, KeptRows, Entry, replay, prefix_same, placed_total, stripe_total, Spec, SpecWithPlans, ArePlansOf, IsCompiled, PassState, StripeState, MayGoOn, free_stripe, rested, resumed, made_there, stripe_of_range, no_pass, pass_at, shares_of, stripe_at, opening, at_map, Key, Standing, View, Apart, Empty, AreFirstSlots, spaced, kept_at, IsWholeRow, resumed_standing, told_of, Slot, kept_of, compiled_by, history_by, spec_by, stripes_by, own_place, slot_place, stripe_word, latch_word, word_of, starts, opener, numbers_in, at_first_by, AreKnown, AreSeatedAt, AreTold, HaveHanded, HaveLatch, IsOwnHome, IsTrueView, OwnsAre, home_of, HomesAre, IsKept}
use mathlib.Core.Option.{some, some-injective, some-ne-none}
use lib.ListN.{get_elem?}
use Rattle.rc_row.specs.declared.row.Row.TheInside.{Inside}

-- each place of a list of equal elements, and each beyond it
same_there : {A : Type 0} → (n p : ℕ) (a : A) → get_or (replicate n a) p a ≡ a
same_there zero p a = refl
same_there (suc n) zero a = refl
same_there (suc n) (suc p) a = same_there n p a

numbers_of_starts : (history : List Entry) (numbers : List ℕ) → numbers_in (map (resumed_standing history) numbers) ≡ numbers
numbers_of_starts history [] = refl
numbers_of_starts history (k ∷ numbers) = ap (λ l. k ∷ l) (numbers_of_starts history numbers)

range_rises : (a n : ℕ) → IsRising nat_cmp (range_with_len a n)
range_rises a zero = tt
range_rises a (suc n) = ((λ y m. sym (nat_cmp_is a y Less (let b = in_range_bounds (a + 1) n y m in let l = b.0 in omega arith))), range_rises (a + 1) n)

-- all sit at the opener's seat
starts_seated : (history : List Entry) (all : List PassState) (numbers : List ℕ) → ((k : ℕ) → In k numbers → slice_get all k ≡ Some (rested history k))
    → AreSeatedAt all (λ k. 0) 0 (map (resumed_standing history) numbers)
starts_seated history all [] f = tt
starts_seated history all (k ∷ numbers) f = ((f k (inl refl), refl), starts_seated history all numbers (λ j m. f j (inr m)))

starts_unlatched : (n : ℕ) (more : List Standing) → HaveLatch (replicate n 0) None more
starts_unlatched n [] = tt
starts_unlatched n (s ∷ more) = (
  record {
    at = λ p. sym (ap (λ x. x == suc s.core.number) (same_there n p 0) ∙ ne_eqb 0 (suc s.core.number) (λ e. omega arith));
    shares = λ p has. absurd (false≢true has);
    idle = λ p has. absurd (false≢true has);
  },
  starts_unlatched n more,
)

-- what they were told is the history
told_known : (history : List Entry) → AreKnown history (told_of history)
told_known [] = λ j d lt. absurd (omega arith)
told_known (e ∷ history) = only
  where
    only : AreKnown (e ∷ history) ((e ∷ history) ∷ [])
    only zero d lt = prefix_same (e ∷ history)
    only (suc j) d lt = absurd (omega arith)

starts_told : (history : List Entry) (numbers : List ℕ) → AreTold history (λ k. []) (map (resumed_standing history) numbers)
starts_told history [] = tt
starts_told history (k ∷ numbers) = (record { count = refl; last = refl; known = told_known history }, starts_told history numbers)

starts_handed : (history : List Entry) (handed : List Bool) (numbers : List ℕ) → HaveHanded handed None (map (resumed_standing history) numbers)
starts_handed history handed [] = tt
starts_handed history handed (k ∷ numbers) = ((λ q m apart. absurd m), starts_handed history handed numbers)

-- ---- slots

pub spaced_count : (fragments : List KeptRows) → length (flat_map spaced fragments) ≡ 4 * length fragments
spaced_count [] = refl
spaced_count (k ∷ fragments) = let n = spaced_count fragments in omega (arith, n)

-- the slot of each stripe
slot_of_stripe : (fragments : List KeptRows) (more : List Slot) (p : ℕ) (keep : KeptRows) → slice_get fragments p ≡ Some keep → get_elem? (flat_map spaced fragments ++ more) (slot_place p) ≡ some (Apart keep)
slot_of_stripe [] more p keep e = cc
slot_of_stripe (k ∷ fragments) more zero keep e = let is : k ≡ keep = cc in ap (λ x. some (Apart x)) is
slot_of_stripe (k ∷ fragments) more (suc p) keep e =
    ap (get_elem? (flat_map spaced (k ∷ fragments) ++ more)) (let z : slot_place (suc p) ≡ suc (suc (suc (suc (slot_place p)))) = omega arith in z) ∙ slot_of_stripe fragments more p keep e

-- and those behind all of them
slot_behind : (fragments : List KeptRows) (n i : ℕ) → 4 * length fragments ≤ i → i < 4 * length fragments + n → get_elem? (flat_map spaced fragments ++ replicate n Empty) i ≡ some Empty
slot_behind [] zero i low high = absurd (omega (arith, low, high))
slot_behind [] (suc n) zero low high = refl
slot_behind [] (suc n) (suc i) low high = slot_behind [] n i (omega arith) (omega (arith, high))
slot_behind (k ∷ fragments) n zero low high = absurd (omega (arith, low))
slot_behind (k ∷ fragments) n (suc zero) low high = absurd (omega (arith, low))
slot_behind (k ∷ fragments) n (suc (suc zero)) low high = absurd (omega (arith, low))
slot_behind (k ∷ fragments) n (suc (suc (suc zero))) low high = absurd (omega (arith, low))
slot_behind (k ∷ fragments) n (suc (suc (suc (suc i)))) low high = slot_behind fragments n i (omega (arith, low)) (omega (arith, high))

pub first_slots : (spec : Spec) (history : List Entry) (passes : ℕ) (fragments : List KeptRows) → stripe_total spec ≤ 256 → length fragments ≡ stripe_total spec
    → ((p : ℕ) → p < length fragments → slice_get fragments p ≡ Some (kept_of spec (fragment_of spec (replay spec history) p)))
    → AreFirstSlots spec history (stripe_total spec) passes (flat_map spaced fragments ++ replicate (1024 + 260 * passes - 4 * length fragments) Empty)
first_slots spec history passes fragments few count rows = record {
  count = length-append (flat_map spaced fragments) (replicate (1024 + 260 * passes - 4 * length fragments) Empty)
      ∙ (let a = spaced_count fragments in let b = length-replicate (1024 + 260 * passes - 4 * length fragments) Empty in omega (arith, a, b, few, count));
  rows = λ p lt. slot_of_stripe fragments (replicate (1024 + 260 * passes - 4 * length fragments) Empty) p (kept_of spec (fragment_of spec (replay spec history) p)) (rows p (omega (arith, lt, count)));
  empty = λ k p known lt. slot_behind fragments (1024 + 260 * passes - 4 * length fragments) (own_place k p) (omega (arith, few, count)) (omega (arith, few, count, known, lt));
}

-- what lies in them are the fragments
none_kept_in : (n : ℕ) → filter_map kept_at (replicate n Empty) ≡ []
none_kept_in zero = refl
none_kept_in (suc n) = none_kept_in n

pub fragments_in : (fragments : List KeptRows) (n : ℕ) → filter_map kept_at (flat_map spaced fragments ++ replicate n Empty) ≡ fragments
fragments_in [] n = none_kept_in n
fragments_in (k ∷ fragments) n = ap (λ l. k ∷ l) (fragments_in fragments n)

pub opens : (key : Key) (words : List ℕ) (slots : List Slot) → IsCompiled (spec_by key) (compiled_by key).plans → MayGoOn (spec_by key) key.passes (history_by key)
    → AreFirstSlots (spec_by key) (history_by key) (stripes_by key) key.passes slots → words ≡ slice_set (replicate (8 * suc (stripes_by key + stripes_by key)) 0) 0 (length (history_by key))
    → IsKept key (opening words slots (opener key))
opens key words slots compiled may first is_words = record {
  compiled = compiled;
  some_pass = may.some_pass;
  few_passes = may.few_passes;
  before = may;
  run = [];
  steps = tt;
  core = resumed (compiled_by key) key.passes (history_by key);
  latches = replicate (stripes_by key) 0;
  reached = refl;
  seat = λ k. 0;
  handed = replicate (stripes_by key) false;
  readers = readers;
  shows = record {
    wide = wide;
    commit = ap (λ (l : List ℕ). slice_index l 0) is_words ∙ get_or-set_same zeros 0 (length (history_by key)) 0 (let n : length {A = ℕ} (replicate (8 * suc (stripes_by key + stripes_by key)) 0) ≡ 8 * suc (stripes_by key + stripes_by key) = length-replicate (8 * suc (stripes_by key + stripes_by key)) 0 in omega (arith, n));
    words = λ p lt. word_there (stripe_word p) (λ e. omega (arith, e)) ∙ ap word_of (sym (unlocked p lt));
    latch_words = λ p lt. word_there (latch_word (stripes_by key) p) (λ e. omega (arith, e)) ∙ sym (same_there (stripes_by key) p 0);
    latch_count = length-replicate (stripes_by key) 0;
    slots = length-map slots some ∙ first.count;
    passes = length-map-range_with_len (rested (history_by key)) 0 key.passes;
    homes = homes;
    handed_count = length-replicate (stripes_by key) false;
    owns = owns;
  };
  named = λ p. (let z : slice_index (replicate (stripes_by key) 0) p ≡ 0 = same_there (stripes_by key) p 0 in omega arith);
  seated = λ k lt. record {
    view = opener key;
    at = refl;
    has = list_any_in (λ (s : Standing). s.core.number == k) (starts (history_by key) 0 key.passes) (resumed_standing (history_by key) k)
        (map_in (resumed_standing (history_by key)) k (range_with_len 0 key.passes) (in_range_below key.passes k (let n = length-map-range_with_len (rested (history_by key)) 0 key.passes in omega arith))) (eq-eqb k k refl);
  };
  views = views;
}
  where
    zeros : List ℕ
    zeros = replicate (8 * suc (stripes_by key + stripes_by key)) 0

    wide : length words ≡ 8 * suc (stripes_by key + stripes_by key)
    wide = ap length is_words ∙ length-set zeros 0 (length (history_by key)) ∙ length-replicate (8 * suc (stripes_by key + stripes_by key)) 0

    word_there : (i : ℕ) → i ≢ 0 → slice_index words i ≡ 0
    word_there i apart = ap (λ (l : List ℕ). slice_index l i) is_words ∙ get_or-set_other zeros 0 i (length (history_by key)) 0 apart ∙ same_there (8 * suc (stripes_by key + stripes_by key)) i 0

    is_free : ℕ → StripeState
    is_free = free_stripe (spec_by key) (history_by key)

    stripes : List StripeState
    stripes = map is_free (range_with_len 0 (stripes_by key))

    unlocked : (p : ℕ) → p < stripes_by key → stripe_at (map is_free (range_with_len 0 (stripes_by key))) p ≡ is_free p
    unlocked p lt = stripe_of_range is_free 0 (stripes_by key) p lt ∙ ap is_free (omega arith)

    inside : (p : ℕ) → p < length (map is_free (range_with_len 0 (stripes_by key))) → p < stripes_by key
    inside p lt = let n = length-map-range_with_len is_free 0 (stripes_by key) in omega arith

    homes : HomesAre (spec_by key) (map is_free (range_with_len 0 (stripes_by key))) (replicate (stripes_by key) 0) (replicate (stripes_by key) false) (map some slots)
    homes p lt =
        at_map some slots (slot_place p) (Apart (kept_of (spec_by key) (fragment_of (spec_by key) (replay (spec_by key) (history_by key)) p))) (first.rows p (inside p lt))
        ∙ sym (λ i. some (home_of (spec_by key) (unlocked p (inside p lt) i).keeper (same_there (stripes_by key) p false i) (eq-eqb (slice_index (replicate (stripes_by key) 0) p) 0 (same_there (stripes_by key) p 0) i)))

    unshared : (k : ℕ) → k < key.passes → pass_at (map (rested (history_by key)) (range_with_len 0 key.passes)) k ≡ rested (history_by key) (0 + k)
    unshared k lt = get_or_from_slice_get (map (rested (history_by key)) (range_with_len 0 key.passes)) k (rested (history_by key) (0 + k)) no_pass (made_there (rested (history_by key)) 0 key.passes k lt)

    owns : OwnsAre (spec_by key) (resumed (compiled_by key) key.passes (history_by key)) (replicate (stripes_by key) false) (map some slots)
    owns k p known lt =
        let few : k < key.passes = (let n = length-map-range_with_len (rested (history_by key)) 0 key.passes in omega arith) in
        subst (λ (z : StripeState × Bool × PassState). IsOwnHome (spec_by key) z.0.keeper z.1 (has (shares_of z.2) p) (get_elem? (map some slots) (own_place k p)))
        (λ i. (sym (unlocked p (inside p lt)) i, sym (same_there (stripes_by key) p false) i, sym (unshared k few) i))
        (Empty, tt, at_map some slots (own_place k p) Empty (first.empty k p few (inside p lt)))

    readers : (id : ℕ) (v : View) → get_elem? (opener key ∷ []) id ≡ some v → HaveHanded (replicate (stripes_by key) false) v.entering v.passes
    readers zero v e = subst (λ (w : View). HaveHanded (replicate (stripes_by key) false) w.entering w.passes) (some-injective (opener key) v e) (starts_handed (history_by key) (replicate (stripes_by key) false) (range_with_len 0 key.passes))
    readers (suc id) v e = absurd (some-ne-none v (sym e))

    views : (id : ℕ) (v : View) → get_elem? (opener key ∷ []) id ≡ some v → IsTrueView (at_first_by key) (λ k. []) (λ k. 0) id v
    views zero v e = subst (IsTrueView (at_first_by key) (λ k. []) (λ k. 0) 0) (some-injective (opener key) v e)
        (record {
          passes = starts_seated (history_by key) (map (rested (history_by key)) (range_with_len 0 key.passes)) (range_with_len 0 key.passes)
              (λ k m. made_there (rested (history_by key)) 0 key.passes k (let b = in_range_bounds 0 key.passes k m in let l = b.1 in omega arith) ∙ ap (λ j. Some (rested (history_by key) j)) (omega arith));
          rising = subst (IsRising nat_cmp) (sym (numbers_of_starts (history_by key) (range_with_len 0 key.passes))) (range_rises 0 key.passes);
          latch = starts_unlatched (stripes_by key) (starts (history_by key) 0 key.passes);
          histories = starts_told (history_by key) (range_with_len 0 key.passes);
          told = omega arith;
          known = λ k d lt. absurd (omega arith);
        })
    views (suc id) v e = absurd (some-ne-none v (sym e))

-- ---- the row of a new table

pub compiled_key : (key : Key) (s : SpecWithPlans) → key.compiled.value ≡ s → IsSealed s.spec → ArePlansOf s.spec s.plans → IsCompiled (spec_by key) (compiled_by key).plans
compiled_key key s told sealed planned = subst (λ (x : SpecWithPlans). IsCompiled x.spec x.plans) (sym told) (record { sealed = sealed; planned = planned })

pub words_of_key : (key : Key) (n : ℕ) → n ≡ stripes_by key → 8 * (2 * n + 1) ≡ 8 * suc (stripes_by key + stripes_by key)
words_of_key key n is = omega (arith, is)

pub is_whole : (a : Inside) (key : Key) (words : List ℕ) (slots : List Slot) → a.table.shared.key ≡ key → IsKept key (opening words slots (opener key))
    → a.table.shared.table_id.slots ≡ length slots → a.table.shared.table_id.words ≡ length words → IsWholeRow a
is_whole a key words slots told kept are many = record {
  compiled = subst (λ (k : Key). IsCompiled (spec_by k) (compiled_by k).plans) (sym told) kept.compiled;
  slots = are ∙ sym (length-map slots some) ∙ kept.shows.slots ∙ ap (λ (k : Key). 1024 + 260 * k.passes) (sym told);
  words = many ∙ kept.shows.wide ∙ ap (λ (k : Key). 8 * suc (stripes_by k + stripes_by k)) (sym told);
  stripes = subst (λ (k : Key). stripes_by k ≤ 256) (sym told) (placed_total (spec_by key) kept.compiled.sealed.accepted.placed);
  some_pass = subst (λ (k : Key). 1 ≤ k.passes) (sym told) kept.some_pass;
  passes = subst (λ (k : Key). k.passes ≤ 255) (sym told) kept.few_passes;
}
