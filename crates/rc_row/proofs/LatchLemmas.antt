-- Taking and freeing a latch keep the rule.
use Rattle.std.proofs.Common.{◌≡◌, ◌≢◌, ℕ, suc, ◌-◌, ◌<◌, ◌≤◌, ◌==◌, Bool, true, false, List, ◌∷◌, length, get_or, set, Option, Some, None, sym, refl, ap, ◌∙◌, subst, inl, inr, arith, length-set}
use Rattle.rc_row.proofs.Imports.{slice_index, slice_get, cases_eq, false≢true, eq-eqb, ne_eqb, eqb-true, eqb-false, get_or-set_same, get_or-set_other, set-get_or, has, In, EdgeRow, Latch, Shared, prefix_same, CoreState, PassState, Keeper, Home, stripe_at, has_writer, pass_at, shares_of, with_pass, other_holds, rows_of_hold, IsGoodPass, each_changed, good_home, shares_held, rows_of_it, State, step, Act, keeps, takes, gives, stepped, Allows, Valid, carried_after, set_here, set_else, Key, Standing, View, Handed, HasHanded, IsOwnHome, OwnsAre, Slot, lodged, own_place, compiled_by, kept_of, spec_by, stripes_by, slot_place, stripe_word, latch_word, word_of, view_of, pass_view, HasLatch, HomesAre, IsKept, home_of, RowStep, TakeLatch, MissLatch, FreeLatch, CanStep, after_step, pass_of, refusal_of, row_state, refusal_at, good_of, state_of, latched_out, found_in_latch, HasLatched, IsLatchedOut, LatchesOrNot, ToldAtLatch, ToldAtUnlatch}
use mathlib.Core.Option.{some, none}
use lib.ListN.{get_elem?}
use prog.Atomic.{either}
use Rattle.rc_row.proofs.MoveLemmas.{Home?, Refuses, moved, its_core, its_known, its_latch, its_pass, its_place, still_core}
use Rattle.rc_row.proofs.StripeLemmas.{by_true, by_false, home_is, there, latch_inside, commit_stays, few_stripes, its_handed, moved_alone, out_where, slot_home, slot_inside}
use Rattle.rc_row.proofs.OwnRuleLemmas.{handed_at, handed_on, owns_alone, owns_on}

module _ (key : Key) (s : State Slot View) (kept : IsKept key s) where
  -- the latch words where one of them changes
  latch_words_with : (p x : ℕ) → p < stripes_by key → (q : ℕ) → q < stripes_by key → slice_index (set s.words (latch_word (stripes_by key) p) x) (latch_word (stripes_by key) q) ≡ slice_index (set kept.latches p x) q
  latch_words_with p x lt q below = elim (cases_eq q p) [
    | inl e ↦ ap (λ n. slice_index (set s.words (latch_word (stripes_by key) p) x) (latch_word (stripes_by key) n)) e ∙ get_or-set_same s.words (latch_word (stripes_by key) p) x 0 (latch_inside key s kept p lt)
        ∙ sym (ap (slice_index (set kept.latches p x)) e ∙ get_or-set_same kept.latches p x 0 (let n = kept.shows.latch_count in omega arith))
    | inr n ↦ get_or-set_other s.words (latch_word (stripes_by key) p) (latch_word (stripes_by key) q) x 0 (λ e. n (omega arith)) ∙ kept.shows.latch_words q below
        ∙ sym (get_or-set_other kept.latches p q x 0 n)
  ]

  -- the words of stripes stay
  stripe_words_stay : (p x q : ℕ) → q < stripes_by key → slice_index (set s.words (latch_word (stripes_by key) p) x) (stripe_word q) ≡ word_of (stripe_at kept.core.stripes q)
  stripe_words_stay p x q below = get_or-set_other s.words (latch_word (stripes_by key) p) (stripe_word q) x 0 (λ e. omega arith) ∙ kept.shows.words q below

module _ (key : Key) (s : State Slot View) (kept : IsKept key s) (id : ℕ) (a : Standing) (l f : Option ℕ) (at : get_elem? s.views id ≡ some (view_of a l f)) where
  -- what a pass shares has the rows that lie at home
  shared_rows : (p : ℕ) → p < stripes_by key → In p (shares_of a.core) → (stripe_at kept.core.stripes p).keeper ≡ Home (rows_of_hold a.core.held p)
  shared_rows p lt m =
      let is : slice_get kept.core.passes a.core.number ≡ Some a.core = its_pass key s kept id a l f at in
      let mine : IsGoodPass (spec_by key) kept.core.history kept.core.stripes a.core.number a.core = (good_of key s kept).passes a.core.number a.core is in
      let x : Keeper = (stripe_at kept.core.stripes p).keeper in
      let free : has_writer x ≡ false = mine.beside p m in
      home_is x free ∙ ap Home (good_home (spec_by key) kept.core.history (length kept.core.passes) p x free ((good_of key s kept).stripes p (there key s kept p lt)).keeper
      ∙ sym (rows_of_it (spec_by key) kept.core a.core.number p a.core (good_of key s kept) is (there key s kept p lt) a.core.held mine.rows (shares_held a.core p m)))

  -- own slots stay where the slot of a stripe changes, and the pass stays
  owns_slot : (p : ℕ) (x : mathlib.Core.Option.Option Slot) (handed : List Bool) → p < stripes_by key → OwnsAre (spec_by key) kept.core handed s.homes
      → OwnsAre (spec_by key) (with_pass kept.core kept.core.history kept.core.stripes a.core.number a.core) handed (set s.homes (slot_place p) x)
  owns_slot p x handed lt are =
      owns_alone (spec_by key) kept.core handed (set s.homes (slot_place p) x) a.core.number a.core kept.core.history (its_place key s kept id a l f at)
      (λ q. ap (λ (u : PassState). has (shares_of u) q) (sym (its_core key s kept id a l f at)))
      (λ j q known below. subst (IsOwnHome (spec_by key) (stripe_at kept.core.stripes q).keeper (get_or handed q false) (has (shares_of (pass_at kept.core.passes j)) q))
      (sym (set_else s.homes (slot_place p) (own_place j q) x (λ e. let n = few_stripes key s kept in omega (arith, lt, e, n)))) (are j q known below))

  -- the latch of a stripe changes, with the pass that takes or frees it
  pub moved_latch : (m g : Option ℕ) (p x : ℕ) (y : RowStep) → CanStep (compiled_by key) (state_of key s kept) y → pass_of y ≡ a.core.number → refusal_of (state_of key s kept) y ≡ None
      → after_step (compiled_by key) (state_of key s kept) y ≡ row_state kept.core (set kept.latches p x)
      → p < stripes_by key → x ≤ length kept.core.passes → HasLatch (set kept.latches p x) m a.core
      → ((j : ℕ) → j ≢ a.core.number → (x == suc j) ≡ (slice_index kept.latches p == suc j))
      → (homes : List Home?) → length homes ≡ length s.homes → (handed : List Bool) → length handed ≡ length kept.handed → HomesAre (spec_by key) kept.core.stripes (set kept.latches p x) handed homes
      → OwnsAre (spec_by key) (with_pass kept.core kept.core.history kept.core.stripes a.core.number a.core) handed homes → HasHanded handed g a.core
      → ((j : ℕ) (u : PassState) (entering : Option ℕ) → j ≢ a.core.number → slice_get kept.core.passes j ≡ Some u → HasHanded kept.handed entering u → HasHanded handed entering u)
      → IsKept key (record { words = set s.words (latch_word (stripes_by key) p) x; homes = homes; views = set s.views id (view_of a m g) })
  moved_latch m g p x y can mine none_refused leads lt known its others homes width handed count right owned shared readers =
      moved key s kept id a l f at a m g refl y can mine (subst (λ r. Refuses r a a) (sym none_refused) (refl, refl)) kept.core.history kept.core.stripes (set kept.latches p x)
      (leads ∙ ap (λ (c : CoreState). row_state c (set kept.latches p x)) (still_core key s kept id a l f at)) (prefix_same kept.core.history) (its_known key s kept id a l f at)
      (length-set kept.latches p x)
      (λ q. each_changed (λ j y. y ≤ length kept.core.passes) kept.latches p x 0 inside known (λ j n. kept.named j) q)
      its
      (λ j q n. each_changed (λ i y. (y == suc j) ≡ (slice_index kept.latches i == suc j)) kept.latches p x 0 inside (others j n) (λ i d. refl) q)
      (set s.words (latch_word (stripes_by key) p) x) homes (length-set s.words (latch_word (stripes_by key) p) x) (commit_stays key s kept (latch_word (stripes_by key) p) x (λ e. omega arith))
      (λ q below. stripe_words_stay key s kept p x q below) (latch_words_with key s kept p x lt) width handed count right owned shared readers
    where
      inside : p < length kept.latches
      inside = let n = kept.shows.latch_count in omega arith

-- what a latch owes, where the number found in its word becomes n
abbrev LatchOwes : Key → ℕ → ℕ → Standing → List (ℕ × Slot) → State Slot View → ℕ → ℕ → Type 0
LatchOwes key p id a carried s n found = (w : View) × (act : Act Slot) × Valid s.homes carried act × IsKept key (stepped s (latch_word (stripes_by key) p) n id carried w act) × LatchesOrNot key (view_of a None (Some p), carried) p found (w, carried_after carried act)

module _ (key : Key) (p id : ℕ) (a : Standing) (carried : List (ℕ × Slot)) (lt : p < stripes_by key) (s : State Slot View) (kept : IsKept key s) (at : get_elem? s.views id ≡ some (view_of a None (Some p))) where
  -- a latch that is free
  latch_takes : In p (shares_of a.core) → a.core.wish ≡ None → (found : ℕ) → slice_index s.words (latch_word (stripes_by key) p) ≡ found → found ≡ 0 → LatchOwes key p id a carried s (suc a.core.number) found
  latch_takes held idle found read free =
      let k : ℕ = a.core.number in
      let its : HasLatch kept.latches None a.core = its_latch key s kept id a None (Some p) at in
      let unlatched : slice_index kept.latches p ≡ 0 = sym (kept.shows.latch_words p lt) ∙ read ∙ free in
      let inside : p < length kept.latches = (let n = kept.shows.latch_count in omega arith) in
      let rows : List EdgeRow = rows_of_hold a.core.held p in (
        view_of a (Some p) (Some p),
        takes (slot_place p) (lodged (spec_by key) (get_or kept.handed p false) rows),
        slot_home key s kept p rows lt (shared_rows key s kept id a None (Some p) at p lt held) unlatched,
        moved_latch key s kept id a None (Some p) at (Some p) (Some p) p (suc k) (TakeLatch k p)
            (((its_place key s kept id a None (Some p) at, there key s kept p lt), subst (λ (u : PassState). In p (shares_of u)) (sym (its_core key s kept id a None (Some p) at)) held), unlatched)
            refl refl refl lt (its_place key s kept id a None (Some p) at)
            (record {
              at = λ q. each_changed (λ j y. (p == j) ≡ (y == suc k)) kept.latches p (suc k) 0 inside (eq-eqb p p refl ∙ sym (eq-eqb (suc k) (suc k) refl)) (λ j n. ne_eqb p j (λ e. n (sym e)) ∙ its.at j) q;
              shares = λ q has. subst (λ n. In n (shares_of a.core)) (eqb-true p q has) held;
              idle = λ q has. idle;
            })
            (λ j n. ne_eqb (suc k) (suc j) (λ e. n (omega arith)) ∙ sym (ap (λ y. y == suc j) unlatched ∙ ne_eqb 0 (suc j) (λ e. omega arith)))
            (set s.homes (slot_place p) none) (length-set s.homes (slot_place p) none) kept.handed refl
            (λ q below. each_changed (λ j y. j < length kept.core.stripes → get_elem? (set s.homes (slot_place p) none) (slot_place j) ≡ some (home_of (spec_by key) (stripe_at kept.core.stripes j).keeper (get_or kept.handed j false) (y == 0)))
            kept.latches p (suc k) 0 inside
            (λ b. set_here s.homes (slot_place p) none (slot_inside key s kept p lt)
            ∙ sym (ap (λ t. some (home_of (spec_by key) (stripe_at kept.core.stripes p).keeper (get_or kept.handed p false) t)) (ne_eqb (suc k) 0 (λ e. omega arith)) ∙ ap some (out_where (spec_by key) (stripe_at kept.core.stripes p).keeper (get_or kept.handed p false))))
            (λ j n b. set_else s.homes (slot_place p) (slot_place j) none (λ e. n (omega arith)) ∙ kept.shows.homes j b) q below)
            (owns_slot key s kept id a None (Some p) at p none kept.handed lt kept.shows.owns) (its_handed key s kept id a (Some p) at) (λ j u entering n h w. w),
        by_true (IsLatchedOut key (view_of a None (Some p), carried) p found (view_of a (Some p) (Some p), (slot_place p, lodged (spec_by key) (get_or kept.handed p false) rows) ∷ carried)) (found == 0) (eq-eqb found 0 free)
            (record { handed = get_or kept.handed p false; view = refl; slots = refl }),
      )

  -- a latch that another pass has
  latch_misses : In p (shares_of a.core) → (found : ℕ) → slice_index s.words (latch_word (stripes_by key) p) ≡ found → found ≢ 0 → LatchOwes key p id a carried s found found
  latch_misses held found read taken =
      let k : ℕ = a.core.number in
      let its : HasLatch kept.latches None a.core = its_latch key s kept id a None (Some p) at in
      let word : slice_index kept.latches p ≡ found = sym (kept.shows.latch_words p lt) ∙ read in
      let other : found - 1 ≢ k = (λ e. eqb-false found (suc k) (ap (λ n. n == suc k) (sym word) ∙ sym (its.at p)) (omega (arith, e, taken))) in
      let b : Standing = latched_out a p (found_in_latch found) in (
        view_of b None (Some p),
        keeps,
        tt,
        subst (λ (words : List ℕ). IsKept key (record { words = words; homes = s.homes; views = set s.views id (view_of b None (Some p)) })) (sym (ap (set s.words (latch_word (stripes_by key) p)) (sym read) ∙ set-get_or s.words (latch_word (stripes_by key) p) 0))
            (moved_alone key s kept id a (Some p) at b refl refl (its_known key s kept id a None (Some p) at) (MissLatch k p) (
              ((its_place key s kept id a None (Some p) at, there key s kept p lt), subst (λ (u : PassState). In p (shares_of u)) (sym (its_core key s kept id a None (Some p) at)) held),
              found - 1,
              word ∙ omega (arith, taken),
              other,
            ) refl
            (refl, λ i. Some (refusal_at Shared p (Latch (sym word i - 1)) (other_holds (sym (its_core key s kept id a None (Some p) at) i).held p)))
            (ap (λ (c : CoreState). row_state c kept.latches) (still_core key s kept id a None (Some p) at))),
        by_false (HasLatched key (view_of a None (Some p), carried) p (view_of b None (Some p), carried)) (found == 0) (ne_eqb found 0 taken) (record {
          keeps_out = ((let n = kept.named p in let m = kept.shows.passes in omega arith), other);
          view = refl;
          slots = refl;
        }),
      )

-- a compare-exchange on a latch that takes it, or finds it taken
pub latches : (key : Key) (slots p id : ℕ) (a : Standing) (carried : List (ℕ × Slot)) (new : ℕ) → p < stripes_by key → In p (shares_of a.core) → a.core.wish ≡ None → new ≡ suc a.core.number
    → Allows (IsKept key) slots id (view_of a None (Some p), carried) (latch_word (stripes_by key) p) (λ n. either (n == 0) new n) (ToldAtLatch (Some key) (step slots (latch_word (stripes_by key) p) 0 new none) (view_of a None (Some p), carried))
latches key slots p id a carried new lt held idle new_is s kept wide at small =
    let found : ℕ = slice_index s.words (latch_word (stripes_by key) p) in
    elim (cases_eq found 0) [
      | inl free ↦ given (either (found == 0) new found) (subst (λ n. LatchOwes key p id a carried s n found) (sym new_is ∙ ap (λ b. either b new found) (sym (eq-eqb found 0 free))) (latch_takes key p id a carried lt s kept at held idle found refl free))
      | inr taken ↦ given (either (found == 0) new found) (subst (λ n. LatchOwes key p id a carried s n found) (ap (λ b. either b new found) (sym (ne_eqb found 0 taken))) (latch_misses key p id a carried lt s kept at held found refl taken))
    ]
  where
    given : (n : ℕ) → LatchOwes key p id a carried s n (slice_index s.words (latch_word (stripes_by key) p))
        → (w : View) × (act : Act Slot) × Valid s.homes carried act × IsKept key (stepped s (latch_word (stripes_by key) p) n id carried w act)
        × ToldAtLatch (Some key) (step slots (latch_word (stripes_by key) p) 0 new none) (view_of a None (Some p), carried) (slice_index s.words (latch_word (stripes_by key) p)) (w, carried_after carried act)
    given n t = (t.0, t.1, t.2, t.3, λ q e. (let same : p ≡ q = omega arith in subst (λ z. LatchesOrNot key (view_of a None (Some p), carried) z (slice_index s.words (latch_word (stripes_by key) p)) (t.0, carried_after carried t.1)) same t.4))

-- a swap on a latch that frees it, and the slot goes home, of which pointers are handed out from now on
pub unlatches : (key : Key) (slots p id : ℕ) (a : Standing) (others : List (ℕ × Slot)) → p < stripes_by key
    → Allows (IsKept key) slots id (view_of a (Some p) (Some p), (slot_place p, Handed (kept_of (spec_by key) (rows_of_hold a.core.held p))) ∷ others) (latch_word (stripes_by key) p) (λ n. 0)
    (ToldAtUnlatch (step slots (latch_word (stripes_by key) p) 0 0 none) (view_of a (Some p) (Some p), (slot_place p, Handed (kept_of (spec_by key) (rows_of_hold a.core.held p))) ∷ others))
unlatches key slots p id a others lt s kept wide at small =
    let k : ℕ = a.core.number in
    let its : HasLatch kept.latches (Some p) a.core = its_latch key s kept id a (Some p) (Some p) at in
    let held : In p (shares_of a.core) = its.shares p (eq-eqb p p refl) in
    let mine : slice_index kept.latches p ≡ suc k = eqb-true (slice_index kept.latches p) (suc k) (sym (its.at p) ∙ eq-eqb p p refl) in
    let inside : p < length kept.latches = (let n = kept.shows.latch_count in omega arith) in
    let rows : List EdgeRow = rows_of_hold a.core.held p in
    let home = some (Handed (kept_of (spec_by key) rows)) in
    let flags : p < length kept.handed = (let n = kept.shows.handed_count in omega arith) in (
      pass_view a,
      gives,
      tt,
      moved_latch key s kept id a (Some p) (Some p) at None None p 0 (FreeLatch k p) mine refl refl refl lt (omega arith)
          (record {
            at = λ q. each_changed (λ j y. false ≡ (y == suc k)) kept.latches p 0 0 inside (sym (ne_eqb 0 (suc k) (λ e. omega arith))) (λ j n. sym (ne_eqb p j (λ e. n (sym e))) ∙ its.at j) q;
            shares = λ q has. absurd (false≢true has);
            idle = λ q has. absurd (false≢true has);
          })
          (λ j n. ne_eqb 0 (suc j) (λ e. omega arith) ∙ sym (ap (λ y. y == suc j) mine ∙ ne_eqb (suc k) (suc j) (λ e. n (omega arith))))
          (set s.homes (slot_place p) home) (length-set s.homes (slot_place p) home) (set kept.handed p true) (length-set kept.handed p true)
          (λ q below. each_changed (λ j y. j < length kept.core.stripes → get_elem? (set s.homes (slot_place p) home) (slot_place j) ≡ some (home_of (spec_by key) (stripe_at kept.core.stripes j).keeper (get_or (set kept.handed p true) j false) (y == 0)))
          kept.latches p 0 0 inside
          (λ b. set_here s.homes (slot_place p) home (slot_inside key s kept p lt)
          ∙ sym (λ i. some (home_of (spec_by key) (shared_rows key s kept id a (Some p) (Some p) at p lt held i) (get_or-set_same kept.handed p true false flags i) (eq-eqb 0 0 refl i))))
          (λ j n b. set_else s.homes (slot_place p) (slot_place j) home (λ e. n (omega arith)) ∙ kept.shows.homes j b
          ∙ ap (λ h. some (home_of (spec_by key) (stripe_at kept.core.stripes j).keeper h (slice_index kept.latches j == 0))) (sym (get_or-set_other kept.handed p j true false n))) q below)
          (owns_slot key s kept id a (Some p) (Some p) at p home (set kept.handed p true) lt (owns_on (spec_by key) kept.core kept.handed s.homes p flags kept.shows.owns))
          (handed_at kept.handed p a.core flags (kept.readers id (view_of a (Some p) (Some p)) at).0) (λ j u entering n h w. handed_on kept.handed p entering u flags w),
      (refl, refl),
    )
