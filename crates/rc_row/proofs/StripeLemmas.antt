-- What the table shows of a stripe, and the changes of one pass that leave the latches alone.
use Rattle.std.proofs.Common.{◌≡◌, ◌≢◌, ℕ, zero, suc, ◌*◌, ◌+◌, ◌-◌, ◌/◌, ◌%◌, ◌<◌, ◌≤◌, ◌==◌, ◌||◌, ◌⊎◌, Bool, true, false, List, [], ◌∷◌, length, get_or, set, Option, Some, None, if◌then◌else◌, sym, refl, ap, ◌∙◌, subst, inl, inr, arith, length-set}
use Rattle.rc_row.proofs.Imports.{slice_index, MatchBool, slice_get, cases_eq, false≢true, eq-eqb, ne_eqb, eqb-true, eqb-false, get_or-set_same, get_or-set_other, In, put, in_put, nat_order, rising_put, has, EdgeRow, placed_total, Pass, Readers, Shared, Exclusive, Spec, Entry, states_are_relations, states_satisfy, replay_in_states, replay, prefix_same, CoreState, Keeper, Home, Writer, PassState, StripeState, stripe_at, no_stripe, has_writer, is_writer, home_rows, pass_at, shares_of, writes_of, is_at, IsHigh, Event, after, with_pass, IsAllowed, IsTaken, IsUnlocked, IsGood, IsGoodKeeper, each_changed, length-put_new, not_has, nat_cmp, above_itself, at_below, writes_held, high_uncounted, sharing_counted, few_tuples, few_counted, length-rising, State, Key, Standing, View, Slot, spec_by, stripes_by, slot_place, stripe_word, latch_word, writer_mark, word_of, pass_view, view_of, lodged, own_place, AreKnown, HasHanded, OwnsAre, AreSeatedAt, HasLatch, HaveLatch, compiled_by, has_pass, home_of, HomesAre, IsKept, RowStep, OfCore, CanStep, after_step, found_at, found_by, pass_of, pass_of_event, refusal_of, refusal_of_event, row_state, good_of, state_of, KeepsOut, HaveOneRelation, found_in_word}
use mathlib.Core.Option.{some, none}
use lib.ListN.{get_elem?}
use Rattle.rc_row.proofs.MoveLemmas.{Home?, Refuses, moved, its_core, its_pass, its_place, its_latch}
use Rattle.rc_row.proofs.OwnRuleLemmas.{handed_less, owns_alone}

-- ---- choices by a test

pub by_true : {X : Type 0} (Y : Type 0) (b : Bool) → b ≡ true → X → MatchBool b X Y
by_true Y true e x = x
by_true Y false e x = absurd (false≢true e)

pub by_false : (X : Type 0) {Y : Type 0} (b : Bool) → b ≡ false → Y → MatchBool b X Y
by_false X true e y = absurd (false≢true (sym e))
by_false X false e y = y

-- ---- what a good state says

-- what a pass of a good state holds has one relation
pub has_one : (spec : Spec) (c : CoreState) (k : ℕ) (u : PassState) → IsGood spec c → slice_get c.passes k ≡ Some u → HaveOneRelation spec u.held
has_one spec c k u good at = record {
  relation = replay spec c.history;
  is_relation = states_are_relations spec c.history good.history.fit (replay spec c.history) (replay_in_states spec c.history);
  satisfies = states_satisfy spec c.history (replay spec c.history) (replay_in_states spec c.history);
  few = (let l = few_tuples spec c good in omega arith);
  rows = (good.passes k u at).rows;
}

pub home_is : (x : Keeper) → has_writer x ≡ false → x ≡ Home (home_rows x)
home_is (Home rows) e = refl
home_is (Writer k) e = absurd (false≢true (sym e))

-- a word that is 0
pub free_word : (t : StripeState) → word_of t ≡ 0 → IsUnlocked t
free_word t e = go t.keeper t.counted e
  where
    go : (x : Keeper) (counted : List ℕ) → writer_mark x + 65536 * length counted ≡ 0 → (has_writer x ≡ false) × (counted ≡ [])
    go (Home rows) [] e = (refl, refl)
    go (Home rows) (k ∷ counted) e = absurd (omega arith)
    go (Writer k) counted e = absurd (omega arith)

-- a word with no writer
pub unwritten_word : (x : Keeper) → writer_mark x ≡ 0 → has_writer x ≡ false
unwritten_word (Home rows) e = refl
unwritten_word (Writer k) e = absurd (omega arith)

mark_known : (spec : Spec) (history : List Entry) (passes p : ℕ) (x : Keeper) → IsGoodKeeper spec history passes p x → writer_mark x ≤ passes
mark_known spec history passes p (Home rows) g = omega arith
mark_known spec history passes p (Writer k) g = omega (arith, g)

mark_other : (x : Keeper) (k : ℕ) → is_writer x k ≡ false → writer_mark x ≢ suc k
mark_other (Home rows) k e n = omega arith
mark_other (Writer j) k e n = let m = eqb-false j k e in m (omega arith)

pub mark_of_writer : (x : Keeper) (k : ℕ) → is_writer x k ≡ true → writer_mark x ≡ suc k
mark_of_writer (Home rows) k e = absurd (false≢true e)
mark_of_writer (Writer j) k e = ap suc (eqb-true j k e)

-- what a stripe's word is made of
pub record IsMade (key : Key) (t : StripeState) (word : ℕ) : Type 0 where
  pub is : word ≡ writer_mark t.keeper + 65536 * length t.counted
  pub mark : writer_mark t.keeper ≤ key.passes
  pub passes : key.passes ≤ 255
  pub count : length t.counted ≤ 255

-- what is found in a word that isn't free
pub keeps_writer_out : (key : Key) (t : StripeState) (word me : ℕ) → IsMade key t word → length t.counted < key.passes → is_writer t.keeper me ≡ false → word ≢ 0 → KeepsOut Exclusive key.passes me (found_in_word word)
keeps_writer_out key t word me made fewer other some_there = go (word % 65536 == 0) refl
  where
    go : (b : Bool) → (word % 65536 == 0) ≡ b → KeepsOut Exclusive key.passes me (if b then Readers (word / 65536) else Pass (word % 65536 - 1))
    go true e = let z = eqb-true (word % 65536) 0 e in let m = made.is in let a = made.mark in let b = made.passes in let c = made.count in (omega arith, omega (arith, fewer))
    go false e = let z = eqb-false (word % 65536) 0 e in let m = made.is in let a = made.mark in let b = made.passes in let c = made.count in let n = mark_other t.keeper me other in (omega arith, λ same. n (omega arith))

pub keeps_reader_out : (key : Key) (t : StripeState) (word me : ℕ) → IsMade key t word → is_writer t.keeper me ≡ false → word % 65536 ≢ 0 → KeepsOut Shared key.passes me (found_in_word word)
keeps_reader_out key t word me made other taken = go (word % 65536 == 0) refl
  where
    go : (b : Bool) → (word % 65536 == 0) ≡ b → KeepsOut Shared key.passes me (if b then Readers (word / 65536) else Pass (word % 65536 - 1))
    go true e = absurd (taken (eqb-true (word % 65536) 0 e))
    go false e = let z = eqb-false (word % 65536) 0 e in let m = made.is in let a = made.mark in let b = made.passes in let c = made.count in let n = mark_other t.keeper me other in (omega arith, λ same. n (omega arith))

-- ---- words and what is in the way

-- a word that isn't 0
pub taken_word : (t : StripeState) → word_of t ≢ 0 → IsTaken t
taken_word t some_there = go t.keeper t.counted some_there
  where
    go : (x : Keeper) (counted : List ℕ) → writer_mark x + 65536 * length counted ≢ 0 → (has_writer x ≡ true) ⊎ (counted ≢ [])
    go (Home rows) [] n = absurd (n refl)
    go (Home rows) (k ∷ counted) n = inr (λ e. cc)
    go (Writer k) counted n = inl refl

-- a word with a writer
pub written_word : (x : Keeper) → writer_mark x ≢ 0 → (j : ℕ) × (x ≡ Writer j)
written_word (Home rows) n = absurd (n refl)
written_word (Writer j) n = (j, refl)

-- the word says what is in the way at the stripe
pub word_tells : (key : Key) (t : StripeState) (word : ℕ) → IsMade key t word → found_in_word word ≡ found_at t
word_tells key t word made = go t.keeper t.counted made.is (let m = made.mark in let n = made.passes in omega arith) made.count
  where
    go : (x : Keeper) (counted : List ℕ) → word ≡ writer_mark x + 65536 * length counted → writer_mark x ≤ 255 → length counted ≤ 255 → found_in_word word ≡ found_by x counted
    go (Home rows) counted is mark count =
        ap (λ b. if b then Readers (word / 65536) else Pass (word % 65536 - 1)) (eq-eqb (word % 65536) 0 (omega (arith, is)))
        ∙ ap Readers (omega (arith, is))
    go (Writer j) counted is mark count =
        ap (λ b. if b then Readers (word / 65536) else Pass (word % 65536 - 1)) (ne_eqb (word % 65536) 0 (λ e. omega (arith, is, mark, e)))
        ∙ ap Pass (omega (arith, is, mark))

-- ---- what the table shows

module _ (key : Key) (s : State Slot View) (kept : IsKept key s) where
  pub there : (p : ℕ) → p < stripes_by key → p < length kept.core.stripes
  there p lt = subst (λ n. p < n) (sym (good_of key s kept).all_stripes) lt

  pub made : (p : ℕ) → p < stripes_by key → IsMade key (stripe_at kept.core.stripes p) (slice_index s.words (stripe_word p))
  made p lt = record {
    is = kept.shows.words p lt;
    mark = subst (λ n. writer_mark (stripe_at kept.core.stripes p).keeper ≤ n) kept.shows.passes
        (mark_known (spec_by key) kept.core.history (length kept.core.passes) p (stripe_at kept.core.stripes p).keeper ((good_of key s kept).stripes p (there p lt)).keeper);
    passes = subst (λ n. n ≤ 255) kept.shows.passes (good_of key s kept).few_passes;
    count = few_counted (spec_by key) kept.core p (good_of key s kept) (there p lt);
  }

  pub word_inside : (p : ℕ) → p < stripes_by key → stripe_word p < length s.words
  word_inside p lt = let w = kept.shows.wide in omega arith

  pub latch_inside : (p : ℕ) → p < stripes_by key → latch_word (stripes_by key) p < length s.words
  latch_inside p lt = let w = kept.shows.wide in omega arith

  -- the commit word stays
  pub commit_stays : (i x : ℕ) → i ≢ 0 → slice_index (set s.words i x) 0 ≡ length kept.core.history
  commit_stays i x n = get_or-set_other s.words i 0 x 0 (λ e. n (sym e)) ∙ kept.shows.commit

  -- the word of a stripe that changed, and the others
  pub words_with : (p x : ℕ) (t : StripeState) → p < stripes_by key → x ≡ word_of t
      → (q : ℕ) → q < stripes_by key → slice_index (set s.words (stripe_word p) x) (stripe_word q) ≡ word_of (stripe_at (set kept.core.stripes p t) q)
  words_with p x t lt is q below = elim (cases_eq q p) [
    | inl e ↦ ap (λ n. slice_index (set s.words (stripe_word p) x) (stripe_word n)) e ∙ get_or-set_same s.words (stripe_word p) x 0 (word_inside p lt) ∙ is
        ∙ ap word_of (sym (ap (stripe_at (set kept.core.stripes p t)) e ∙ get_or-set_same kept.core.stripes p t no_stripe (there p lt)))
    | inr n ↦ get_or-set_other s.words (stripe_word p) (stripe_word q) x 0 (λ e. n (omega arith)) ∙ kept.shows.words q below
        ∙ ap word_of (sym (get_or-set_other kept.core.stripes p q t no_stripe n))
  ]

  -- the latch words stay where a stripe's word changes
  pub latches_stay : (p x : ℕ) → p < stripes_by key → (q : ℕ) → q < stripes_by key → slice_index (set s.words (stripe_word p) x) (latch_word (stripes_by key) q) ≡ slice_index kept.latches q
  latches_stay p x lt q below = get_or-set_other s.words (stripe_word p) (latch_word (stripes_by key) q) x 0 (λ e. omega arith) ∙ kept.shows.latch_words q below

  -- there are so few stripes that each has its place
  pub few_stripes : stripes_by key ≤ 256
  few_stripes = placed_total (spec_by key) kept.compiled.sealed.accepted.placed

  pub low : (p : ℕ) → p < length kept.core.stripes → p < 256
  low p lt = let n = few_stripes in let m = (good_of key s kept).all_stripes in omega arith

  -- the slots at home where a stripe changes
  pub homes_with : (p : ℕ) (t : StripeState) (handed : List Bool) (homes : List Home?) → p < stripes_by key
      → ((q : ℕ) → q < length kept.core.stripes → q ≢ p → get_elem? homes (slot_place q) ≡ get_elem? s.homes (slot_place q)) → ((q : ℕ) → q ≢ p → get_or handed q false ≡ get_or kept.handed q false)
      → get_elem? homes (slot_place p) ≡ some (home_of (spec_by key) t.keeper (get_or handed p false) (slice_index kept.latches p == 0))
      → HomesAre (spec_by key) (set kept.core.stripes p t) kept.latches handed homes
  homes_with p t handed homes lt same flags here q below =
      each_changed (λ j y. j < length kept.core.stripes → get_elem? homes (slot_place j) ≡ some (home_of (spec_by key) y.keeper (get_or handed j false) (slice_index kept.latches j == 0)))
      kept.core.stripes p t no_stripe (there p lt) (λ l. here)
      (λ j n l. same j l n ∙ kept.shows.homes j l ∙ ap (λ b. some (home_of (spec_by key) (stripe_at kept.core.stripes j).keeper b (slice_index kept.latches j == 0))) (sym (flags j n))) q
      (subst (λ n. q < n) (length-set kept.core.stripes p t) below)

  -- where the keeper stays, and the slots of stripes, they stay
  pub homes_stay : (p : ℕ) (t : StripeState) (homes : List Home?) → p < stripes_by key → ((q : ℕ) → q < length kept.core.stripes → get_elem? homes (slot_place q) ≡ get_elem? s.homes (slot_place q))
      → t.keeper ≡ (stripe_at kept.core.stripes p).keeper → HomesAre (spec_by key) (set kept.core.stripes p t) kept.latches kept.handed homes
  homes_stay p t homes lt still same =
      homes_with p t kept.handed homes lt (λ q l n. still q l) (λ q n. refl)
      (still p (there p lt) ∙ kept.shows.homes p (there p lt) ∙ ap (λ (x : Keeper). some (home_of (spec_by key) x (get_or kept.handed p false) (slice_index kept.latches p == 0))) (sym same))

  pub slot_inside : (p : ℕ) → p < stripes_by key → slot_place p < length s.homes
  slot_inside p lt = let n = kept.shows.slots in let m = few_stripes in omega arith

  pub own_inside : (k p : ℕ) → k < length kept.core.passes → p < stripes_by key → own_place k p < length s.homes
  own_inside k p known lt = let n = kept.shows.slots in let m = few_stripes in let c = kept.shows.passes in omega arith

  -- the slot of a stripe that nobody writes or latches
  pub slot_home : (p : ℕ) (rows : List EdgeRow) → p < stripes_by key → (stripe_at kept.core.stripes p).keeper ≡ Home rows → slice_index kept.latches p ≡ 0
      → get_elem? s.homes (slot_place p) ≡ some (some (lodged (spec_by key) (get_or kept.handed p false) rows))
  slot_home p rows lt is free = kept.shows.homes p (there p lt) ∙ (λ i. some (home_of (spec_by key) (is i) (get_or kept.handed p false) (eq-eqb (slice_index kept.latches p) 0 free i)))

  pub pass_there : (passes : List PassState) (k : ℕ) → k < length passes → slice_get passes k ≡ Some (pass_at passes k)
  pass_there [] k lt = absurd (omega arith)
  pass_there (u ∷ passes) zero lt = refl
  pass_there (u ∷ passes) (suc k) lt = pass_there passes k (omega arith)

  -- where nobody is counted in, nobody shares the stripe
  pub unshared : (p : ℕ) → (stripe_at kept.core.stripes p).counted ≡ [] → (k : ℕ) → k < length kept.core.passes → has (shares_of (pass_at kept.core.passes k)) p ≡ false
  unshared p none_in k lt =
      not_has (shares_of (pass_at kept.core.passes k)) p
      (λ m. subst (In k) none_in (sharing_counted (spec_by key) kept.core (good_of key s kept) p k (pass_at kept.core.passes k) (pass_there kept.core.passes k lt) m))

  -- nor where somebody writes it
  pub unshared_written : (p : ℕ) → has_writer (stripe_at kept.core.stripes p).keeper ≡ true → (k : ℕ) (u : PassState) → slice_get kept.core.passes k ≡ Some u → In p (shares_of u) → ⊥
  unshared_written p written k u is m = false≢true (sym (((good_of key s kept).passes k u is).beside p m) ∙ written)

  -- a pass that has a latch, by the number in the latch's word
  latched_pass : (seat : ℕ → ℕ) (id k : ℕ) (latch : Option ℕ) (more : List Standing) → AreSeatedAt kept.core.passes seat id more → HaveLatch kept.latches latch more → has_pass more k ≡ true
      → (u : PassState) × (slice_get kept.core.passes k ≡ Some u) × HasLatch kept.latches latch u × (u.number ≡ k)
  latched_pass seat id k latch [] f a has = absurd (false≢true has)
  latched_pass seat id k latch (x ∷ more) f a has = elim (cases_eq x.core.number k) [
    | inl e ↦ (x.core, ap (slice_get kept.core.passes) (sym e) ∙ f.0.0, a.0, e)
    | inr n ↦ latched_pass seat id k latch more f.1 a.1 (sym (ap (λ b. b || has_pass more k) (ne_eqb x.core.number k n)) ∙ has)
  ]

  -- where nobody is counted in, nobody has the latch
  pub no_latch : (p : ℕ) → (stripe_at kept.core.stripes p).counted ≡ [] → slice_index kept.latches p ≡ 0
  no_latch p none_in = elim (cases_eq (slice_index kept.latches p) 0) [
    | inl e ↦ e
    | inr taken ↦
        (let j : ℕ = slice_index kept.latches p - 1 in
        let named = kept.named p in
        let x = kept.seated j (omega arith) in
        let f = kept.views (kept.seat j) x.view x.at in
        let r = latched_pass kept.seat (kept.seat j) j x.view.latch x.view.passes f.passes f.latch x.has in
        let number = r.3 in
        let latched : is_at x.view.latch p ≡ true = ◌∙◌ {b = slice_index kept.latches p == suc r.0.number} (r.2.at p) (eq-eqb (slice_index kept.latches p) (suc r.0.number) (omega arith)) in
        absurd (subst (In j) none_in (sharing_counted (spec_by key) kept.core (good_of key s kept) p j r.0 r.1 (r.2.shares p latched))))
  ]

  -- where somebody writes, nobody has the latch
  pub no_latch_written : (p : ℕ) → has_writer (stripe_at kept.core.stripes p).keeper ≡ true → slice_index kept.latches p ≡ 0
  no_latch_written p written = elim (cases_eq (slice_index kept.latches p) 0) [
    | inl e ↦ e
    | inr taken ↦
        (let j : ℕ = slice_index kept.latches p - 1 in
        let named = kept.named p in
        let x = kept.seated j (omega arith) in
        let f = kept.views (kept.seat j) x.view x.at in
        let r = latched_pass kept.seat (kept.seat j) j x.view.latch x.view.passes f.passes f.latch x.has in
        let number = r.3 in
        let latched : is_at x.view.latch p ≡ true = ◌∙◌ {b = slice_index kept.latches p == suc r.0.number} (r.2.at p) (eq-eqb (slice_index kept.latches p) (suc r.0.number) (omega arith)) in
        absurd (false≢true (sym (((good_of key s kept).passes j r.0 r.1).beside p (r.2.shares p latched)) ∙ written)))
  ]

-- what a slot has where its stripe is latched
pub out_where : (spec : Spec) (x : Keeper) (handed : Bool) → home_of spec x handed false ≡ none
out_where spec (Home rows) handed = refl
out_where spec (Writer k) handed = refl

-- ---- a pass with no latch changes

-- a pass with no latch stays one
pub still_bare : (latches : List ℕ) (u w : PassState) → HasLatch latches None u → w.number ≡ u.number → HasLatch latches None w
still_bare latches u w a number = record {
  at = λ p. a.at p ∙ ap (λ n. slice_index latches p == suc n) (sym number);
  shares = λ p has. absurd (false≢true has);
  idle = λ p has. absurd (false≢true has);
}

module _ (key : Key) (s : State Slot View) (kept : IsKept key s) (id : ℕ) (a : Standing) (f : Option ℕ) (at : get_elem? s.views id ≡ some (view_of a None f)) where
  -- what it shares is handed out
  pub its_handed : HasHanded kept.handed f a.core
  its_handed = (kept.readers id (view_of a None f) at).0

  -- it makes an event, by which it changes with a stripe and its word
  pub moved_stripe : (b : Standing) (g : Option ℕ) → b.core.number ≡ a.core.number → AreKnown kept.core.history b.known
      → (x : Event) → IsAllowed (compiled_by key) kept.core x → pass_of_event x ≡ a.core.number → Refuses (refusal_of_event kept.core x) a b
      → (p word : ℕ) (t : StripeState) → p < stripes_by key → word ≡ word_of t
      → after (compiled_by key) kept.core x ≡ with_pass kept.core kept.core.history (set kept.core.stripes p t) a.core.number b.core
      → (homes : List Home?) → length homes ≡ length s.homes → (handed : List Bool) → length handed ≡ length kept.handed → HomesAre (spec_by key) (set kept.core.stripes p t) kept.latches handed homes
      → OwnsAre (spec_by key) (with_pass kept.core kept.core.history (set kept.core.stripes p t) a.core.number b.core) handed homes → HasHanded handed g b.core
      → ((j : ℕ) (u : PassState) (entering : Option ℕ) → j ≢ a.core.number → slice_get kept.core.passes j ≡ Some u → HasHanded kept.handed entering u → HasHanded handed entering u)
      → IsKept key (record { words = set s.words (stripe_word p) word; homes = homes; views = set s.views id (view_of b None g) })
  moved_stripe b g number known x can mine refuses p word t lt is leads homes width handed count right owned shared readers =
      moved key s kept id a None f at b None g number (OfCore x) can mine refuses kept.core.history (set kept.core.stripes p t) kept.latches
      (ap (λ (c : CoreState). row_state c kept.latches) leads) (prefix_same kept.core.history) known
      refl kept.named (still_bare kept.latches a.core b.core (its_latch key s kept id a None f at) number) (λ j q n. refl)
      (set s.words (stripe_word p) word) homes (length-set s.words (stripe_word p) word) (commit_stays key s kept (stripe_word p) word (λ e. omega arith))
      (words_with key s kept p word t lt is) (latches_stay key s kept p word lt) width handed count right owned shared readers

  -- it makes a step, by which it changes alone, and shares what it did
  pub moved_alone : (b : Standing) → b.core.number ≡ a.core.number → shares_of b.core ≡ shares_of a.core → AreKnown kept.core.history b.known
      → (x : RowStep) → CanStep (compiled_by key) (state_of key s kept) x → pass_of x ≡ a.core.number → Refuses (refusal_of (state_of key s kept) x) a b
      → after_step (compiled_by key) (state_of key s kept) x ≡ row_state (with_pass kept.core kept.core.history kept.core.stripes a.core.number b.core) kept.latches
      → IsKept key (record { words = s.words; homes = s.homes; views = set s.views id (view_of b None f) })
  moved_alone b number same known x can mine refuses leads =
      moved key s kept id a None f at b None f number x can mine refuses kept.core.history kept.core.stripes kept.latches leads (prefix_same kept.core.history) known
      refl kept.named (still_bare kept.latches a.core b.core (its_latch key s kept id a None f at) number) (λ j q n. refl)
      s.words s.homes refl kept.shows.commit kept.shows.words kept.shows.latch_words refl kept.handed refl kept.shows.homes
      (owns_alone (spec_by key) kept.core kept.handed s.homes a.core.number b.core kept.core.history (its_place key s kept id a None f at)
      (λ q. ap (λ (xs : List ℕ). has xs q) (same ∙ ap shares_of (sym (its_core key s kept id a None f at)))) kept.shows.owns)
      (handed_less kept.handed f a.core b.core (λ q m. subst (In q) same m) its_handed) (λ j u e n is h. h)

module _ (key : Key) (s : State Slot View) (kept : IsKept key s) (id : ℕ) (a : Standing) (at : get_elem? s.views id ≡ some (pass_view a)) where
  -- who is counted in there are others, and so fewer than all
  pub high_fewer : (p : ℕ) → p < stripes_by key → IsHigh a.core p → length (stripe_at kept.core.stripes p).counted < key.passes
  high_fewer p lt high =
      let is : slice_get kept.core.passes a.core.number ≡ Some a.core = its_pass key s kept id a None None at in
      let counted : List ℕ = (stripe_at kept.core.stripes p).counted in
      let stripe = (good_of key s kept).stripes p (there key s kept p lt) in
      let more = length-put_new a.core.number (stripe_at kept.core.stripes p).counted (high_uncounted (spec_by key) kept.core (good_of key s kept) p a.core.number a.core is high) in
      let rise = rising_put nat_cmp nat_order a.core.number (stripe_at kept.core.stripes p).counted stripe.rising in
      let all = length-rising 0 (length kept.core.passes) (put nat_cmp a.core.number (stripe_at kept.core.stripes p).counted) (omega arith) rise
      (λ j m. (
        omega arith,
        elim (in_put nat_cmp nat_order j a.core.number (stripe_at kept.core.stripes p).counted m) [
          | inl e ↦ subst (λ n. n < length kept.core.passes) (sym e) (at_below kept.core.passes a.core.number a.core is)
          | inr x ↦ stripe.known j x
        ],
      )) in
      let n = kept.shows.passes in
      omega (arith, more, all)

  -- a pass for which the stripe is high doesn't write it
  pub high_unwritten : (p : ℕ) → IsHigh a.core p → is_writer (stripe_at kept.core.stripes p).keeper a.core.number ≡ false
  high_unwritten p high = sym (((good_of key s kept).passes a.core.number a.core (its_pass key s kept id a None None at)).writes p) ∙ not_has (writes_of a.core) p (λ m. above_itself a.core p high.above (writes_held a.core p m))
