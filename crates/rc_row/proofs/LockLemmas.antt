-- Locking a stripe to write it, and unlocking it, keep the rule.
use Rattle.std.proofs.Common.{true, ◌≡◌, ◌≢◌, ℕ, suc, ◌*◌, ◌+◌, ◌-◌, ◌%◌, ◌^◌, ◌<◌, ◌≤◌, ◌==◌, Bool, false, List, ◌∷◌, ◌++◌, drop, length, get_or, set, Some, None, sym, refl, ap, ◌∙◌, subst, inl, inr, arith, length-set}
use Rattle.rc_row.proofs.Imports.{slice_index, slice_get, cases_eq, eq-eqb, ne_eqb, set-get_or, get_or-set_same, get_or-set_other, has, In, has_in, EdgeRow, Exclusive, Shared, CoreState, Home, Writer, PassState, StripeState, Keeper, has_writer, hold, home_rows, no_pass, pass_at, shares_of, stripe_at, writes_of, IsHigh, locked, blocked, released, rows_of_hold, with_pass, with_keeper, IsUnlocked, lock_keeps, State, step, Act, keeps, gives, stepped, Allows, Valid, carried_after, homes_after, Key, Standing, View, Empty, Apart, Slot, home_of, kept_of, lodged, own_place, spec_by, stripes_by, slot_place, stripe_word, writer_mark, pass_view, IsKept, own_hands, value_at, OfCore, found_at, row_state, refusal_at, good_of, KeepsOut, with_core, refused, found_in_word, HasLocked, IsLockedOut, LocksOrNot, ToldAtLock, ToldAtUnlock, passes_in, get_set_same, has-held_more, has-held_without_other, has-held_without_same, less_held, not_has}
use mathlib.Core.Option.{some, none}
use lib.ListN.{get_elem?}
use prog.Atomic.{either}
use Rattle.rc_core.specs.declared.event.Event.TheVariants as event
use Rattle.rc_core.specs.ListLaws.{held_without}
use Rattle.rc_row.proofs.MoveLemmas.{Home?, its_core, its_known, its_pass, its_place}
use Rattle.rc_row.proofs.StripeLemmas.{IsMade, by_true, by_false, has_one, home_is, free_word, mark_of_writer, keeps_writer_out, there, made, homes_with, no_latch, no_latch_written, slot_home, slot_inside, few_stripes, low, own_inside, pass_there, unshared, unshared_written, its_handed, moved_stripe, moved_alone, high_fewer, high_unwritten, taken_word, word_tells}
use Rattle.rc_row.proofs.OwnLemmas.{behind_owns, carried_locked, carried_unlocked, homes_locked, homes_of_lock, homes_of_unlock, homes_unlocked, length-locked, length-unlocked, locked_else, locked_here, locked_own, locked_own_else, locking, unlocked_else, unlocked_here, unlocked_own, unlocked_own_else, unlocking, valid_given, valid_lock}
use Rattle.rc_row.proofs.OwnRuleLemmas.{handed_less, handed_off, own_empty, own_home, own_value, owns_locked, owns_unlocked}

-- what a lock owes, where the number found in the word becomes n
abbrev LockOwes : Key → ℕ → ℕ → Standing → List (ℕ × Slot) → State Slot View → ℕ → ℕ → Type 0
LockOwes key p id a carried s n found = (w : View) × (act : Act Slot) × Valid s.homes carried act × IsKept key (stepped s (stripe_word p) n id carried w act) × LocksOrNot key (pass_view a, carried) p found (w, carried_after carried act)

module _ (key : Key) (p id : ℕ) (a : Standing) (carried : List (ℕ × Slot)) (lt : p < stripes_by key) (s : State Slot View) (kept : IsKept key s) (at : get_elem? s.views id ≡ some (pass_view a)) where
  -- a lock that finds the stripe free
  lock_takes : IsHigh a.core p → (found : ℕ) → slice_index s.words (stripe_word p) ≡ found → found ≡ 0 → LockOwes key p id a carried s (suc a.core.number) found
  lock_takes high found read free =
      let k : ℕ = a.core.number in
      let c : CoreState = kept.core in
      let n : ℕ = key.passes in
      let t : StripeState = stripe_at kept.core.stripes p in
      let here : p < length kept.core.stripes = there key s kept p lt in
      let is : slice_get kept.core.passes a.core.number ≡ Some a.core = its_pass key s kept id a None None at in
      let unlocked : IsUnlocked (stripe_at kept.core.stripes p) = free_word (stripe_at kept.core.stripes p) (sym (kept.shows.words p lt) ∙ read ∙ free) in
      let rows : List EdgeRow = home_rows (stripe_at kept.core.stripes p).keeper in
      let home : (stripe_at kept.core.stripes p).keeper ≡ Home (home_rows (stripe_at kept.core.stripes p).keeper) = home_is t.keeper unlocked.0 in
      let handed : Bool = get_or kept.handed p false in
      let owns : ℕ → Slot = (λ j. value_at s.homes (own_place j p)) in
      let y : Slot = lodged (spec_by key) (get_or kept.handed p false) (home_rows (stripe_at kept.core.stripes p).keeper) in
      let w : PassState = locked a.core p rows in
      let known : (j : ℕ) → j < key.passes → j < length kept.core.passes = (λ j below. let m = kept.shows.passes in omega (arith, below)) in
      let good = lock_keeps (spec_by key) c k p a.core (good_of key s kept) is here high unlocked in (
        pass_view (with_core a w),
        locking n p owns y s.homes carried,
        valid_lock n p owns y s.homes carried (low key s kept p here)
            (λ j below. own_home (spec_by key) c kept.handed s.homes kept.shows.owns p here rows home j (known j below) (unshared key s kept p unlocked.1 j (known j below)))
            (slot_home key s kept p rows lt home (no_latch key s kept p unlocked.1)),
        subst (λ (hs : List Home?). IsKept key (record { words = set s.words (stripe_word p) (suc k); homes = hs; views = set s.views id (pass_view (with_core a w)) })) (sym (homes_of_lock n p owns y s.homes carried))
            (moved_stripe key s kept id a None at (with_core a w) None refl (its_known key s kept id a None None at) (event.Lock k p)
            ((its_place key s kept id a None None at, here), subst (λ (u : PassState). IsHigh u p) (sym (its_core key s kept id a None None at)) high, unlocked) refl (refl, refl)
            p (suc k) (with_keeper t (Writer k)) lt (let e = ap (λ (xs : List ℕ). length xs) unlocked.1 in omega arith)
            (ap (λ (u : PassState). with_pass c c.history (set c.stripes p (with_keeper t (Writer k))) k (locked u p rows)) (its_core key s kept id a None None at))
            (homes_locked n p owns y s.homes carried) (length-locked n p owns y s.homes carried) kept.handed refl
            (homes_with key s kept p (with_keeper t (Writer k)) kept.handed (homes_locked n p owns y s.homes carried) lt
            (λ q l apart. locked_else n p owns y s.homes carried q (low key s kept q l) (low key s kept p here) apart) (λ q apart. refl) (locked_here n p owns y s.homes carried (low key s kept p here) (slot_inside key s kept p lt)))
            (owns_locked (spec_by key) c kept.handed s.homes kept.shows.owns k p w (with_keeper t (Writer k)) c.history (its_place key s kept id a None None at) here few
            (λ q apart. has-held_more Shared a.core.held (hold p Exclusive rows) q (λ e. cc) ∙ ap (λ (u : PassState). has (shares_of u) q) (sym (its_core key s kept id a None None at)))
            (homes_locked n p owns y s.homes carried) refl (λ j q l apart. locked_own_else n p owns y s.homes carried j q (low key s kept q l) (low key s kept p here) apart)
            (λ j below. locked_own n p owns y s.homes carried j (low key s kept p here) (let m = kept.shows.passes in omega (arith, below)) (own_inside key s kept j p below lt)))
            (handed_less kept.handed None a.core w (λ q m. elim (less_held Shared q a.core.held (hold p Exclusive rows) m) [ inl x ↦ x | inr e ↦ absurd (apart_modes e.0) ]) (its_handed key s kept id a None at))
            (λ j u entering n' is' h. h)),
        by_true (IsLockedOut key (pass_view a, carried) p found (pass_view (with_core a w), carried_after carried (locking n p owns y s.homes carried))) (found == 0) (eq-eqb found 0 free) (record {
          rows = rows;
          handed = handed;
          owns = owns;
          empty = λ clear j below.
              own_empty (spec_by key) rows handed (owns j) clear (own_value (spec_by key) c kept.handed s.homes kept.shows.owns p here rows home j (known j below) (unshared key s kept p unlocked.1 j (known j below)));
          view = refl;
          slots = carried_locked n p owns y s.homes carried;
          one = has_one (spec_by key) (with_pass c c.history (set c.stripes p (with_keeper t (Writer k))) k w) k w good (get_set_same c.passes k w a.core is);
        }),
      )
    where
      few : length kept.core.stripes ≤ 256
      few = let n = few_stripes key s kept in let m = (good_of key s kept).all_stripes in omega arith

      apart_modes : Exclusive ≡ Shared → ⊥
      apart_modes e = cc

  -- a lock that finds the stripe taken
  lock_blocks : IsHigh a.core p → (found : ℕ) → slice_index s.words (stripe_word p) ≡ found → found ≢ 0 → LockOwes key p id a carried s found found
  lock_blocks high found read taken =
      let tells : found_in_word found ≡ found_at (stripe_at kept.core.stripes p) =
      word_tells key (stripe_at kept.core.stripes p) found (subst (IsMade key (stripe_at kept.core.stripes p)) read (made key s kept p lt)) in
      let b : Standing = refused Exclusive a p (found_in_word found) (blocked a.core p) a.core.held in (
        pass_view b,
        keeps,
        tt,
        subst (λ (words : List ℕ). IsKept key (record { words = words; homes = s.homes; views = set s.views id (pass_view b) })) (sym (ap (set s.words (stripe_word p)) (sym read) ∙ set-get_or s.words (stripe_word p) 0))
            (moved_alone key s kept id a None at b refl refl (its_known key s kept id a None None at) (OfCore (event.Block a.core.number p)) (
              (its_place key s kept id a None None at, there key s kept p lt),
              subst (λ (u : PassState). IsHigh u p) (sym (its_core key s kept id a None None at)) high,
              taken_word (stripe_at kept.core.stripes p) (λ e. taken (sym read ∙ kept.shows.words p lt ∙ e)),
            ) refl
            (refl, λ i. Some (refusal_at Exclusive p (tells i) (sym (its_core key s kept id a None None at) i).held))
            (ap (λ (u : PassState). row_state (with_pass kept.core kept.core.history kept.core.stripes a.core.number (blocked u p)) kept.latches) (its_core key s kept id a None None at))),
        by_false (HasLocked key (pass_view a, carried) p (pass_view b, carried)) (found == 0) (ne_eqb found 0 taken) (record {
          keeps_out = subst (λ n. KeepsOut Exclusive key.passes a.core.number (found_in_word n)) read
              (keeps_writer_out key (stripe_at kept.core.stripes p) (slice_index s.words (stripe_word p)) a.core.number (made key s kept p lt) (high_fewer key s kept id a at p lt high) (high_unwritten key s kept id a at p high) (λ e. taken (sym read ∙ e)));
          view = refl;
          slots = refl;
        }),
      )

-- a compare-exchange on a stripe's word that locks it, or finds it taken
pub locks : (key : Key) (slots p id : ℕ) (a : Standing) (carried : List (ℕ × Slot)) (new : ℕ) → p < stripes_by key → IsHigh a.core p → new ≡ suc a.core.number
    → Allows (IsKept key) slots id (pass_view a, carried) (stripe_word p) (λ n. either (n == 0) new n) (ToldAtLock (Some key) (step slots (stripe_word p) 0 new none) (pass_view a, carried))
locks key slots p id a carried new lt high new_is s kept wide at small =
    let found : ℕ = slice_index s.words (stripe_word p) in
    elim (cases_eq found 0) [
      | inl free ↦ given (either (found == 0) new found) (subst (λ n. LockOwes key p id a carried s n found) (sym new_is ∙ ap (λ b. either b new found) (sym (eq-eqb found 0 free))) (lock_takes key p id a carried lt s kept at high found refl free))
      | inr taken ↦ given (either (found == 0) new found) (subst (λ n. LockOwes key p id a carried s n found) (ap (λ b. either b new found) (sym (ne_eqb found 0 taken))) (lock_blocks key p id a carried lt s kept at high found refl taken))
    ]
  where
    given : (n : ℕ) → LockOwes key p id a carried s n (slice_index s.words (stripe_word p))
        → (w : View) × (act : Act Slot) × Valid s.homes carried act × IsKept key (stepped s (stripe_word p) n id carried w act)
        × ToldAtLock (Some key) (step slots (stripe_word p) 0 new none) (pass_view a, carried) (slice_index s.words (stripe_word p)) (w, carried_after carried act)
    given n t = (t.0, t.1, t.2, t.3, λ q e. (let same : p ≡ q = omega arith in subst (λ z. LocksOrNot key (pass_view a, carried) z (slice_index s.words (stripe_word p)) (t.0, carried_after carried t.1)) same t.4))

-- a fetch-sub on a stripe's word by its writer: its slot, which was taken last, goes home with the rows that the view has for it, and the own
-- slots there, which are empty
pub unlocks : (key : Key) (slots p id : ℕ) (a : Standing) (others : List (ℕ × Slot)) (mark : ℕ) → p < stripes_by key → In p (writes_of a.core) → mark ≡ suc a.core.number → slots ≡ 1024 + 260 * key.passes
    → Allows (IsKept key) slots id (pass_view a, (slot_place p, Apart (kept_of (spec_by key) (rows_of_hold a.core.held p))) ∷ own_hands key.passes p (λ j. Empty) ++ others) (stripe_word p) (λ n. (n + (2 ^ 64 - mark)) % 2 ^ 64)
    (ToldAtUnlock (step slots (stripe_word p) mark 0 none) (pass_view a, (slot_place p, Apart (kept_of (spec_by key) (rows_of_hold a.core.held p))) ∷ own_hands key.passes p (λ j. Empty) ++ others))
unlocks key slots p id a others mark lt held mark_is many s kept wide at small =
    let k : ℕ = a.core.number in
    let c : CoreState = kept.core in
    let n : ℕ = key.passes in
    let here : p < length kept.core.stripes = there key s kept p lt in
    let w : PassState = released a.core p in
    let x : ℕ = (slice_index s.words (stripe_word p) + (2 ^ 64 - mark)) % 2 ^ 64 in
    let rows : List EdgeRow = rows_of_hold a.core.held p in
    let t : StripeState = with_keeper (stripe_at kept.core.stripes p) (Home (rows_of_hold a.core.held p)) in
    let y : Slot = Apart (kept_of (spec_by key) (rows_of_hold a.core.held p)) in
    let none_there : ℕ → Slot = (λ j. Empty) in
    let carried : List (ℕ × Slot) = (slot_place p, Apart (kept_of (spec_by key) (rows_of_hold a.core.held p))) ∷ own_hands key.passes p (λ j. Empty) ++ others in
    let homes : List Home? = homes_unlocked n p none_there y s.homes others in (
      pass_view (with_core a w),
      unlocking n p none_there y s.homes others,
      (tt, valid_given p none_there n (homes_after s.homes carried gives) (carried_after carried gives)),
      subst (λ (hs : List Home?). IsKept key (record { words = set s.words (stripe_word p) x; homes = hs; views = set s.views id (pass_view (with_core a w)) })) (sym (homes_of_unlock n p none_there y s.homes others))
          (moved_stripe key s kept id a None at (with_core a w) None refl (its_known key s kept id a None None at) (event.Unlock k p)
          ((its_place key s kept id a None None at, here), subst (λ (u : PassState). In p (writes_of u)) (sym (its_core key s kept id a None None at)) held) refl (refl, refl)
          p x t lt left
          (ap (λ (u : PassState). with_pass c c.history (set c.stripes p (with_keeper (stripe_at c.stripes p) (Home (rows_of_hold u.held p)))) k (released u p)) (its_core key s kept id a None None at))
          homes (length-unlocked n p none_there y s.homes others) (set kept.handed p false) (length-set kept.handed p false)
          (homes_with key s kept p t (set kept.handed p false) homes lt
          (λ q l apart. unlocked_else n p none_there y s.homes others q (low key s kept q l) (low key s kept p here) apart) (λ q apart. get_or-set_other kept.handed p q false false apart)
          (unlocked_here n p none_there y s.homes others (low key s kept p here) (slot_inside key s kept p lt)
          ∙ sym (λ i. some (home_of (spec_by key) (Home rows) (clear i) (eq-eqb (slice_index kept.latches p) 0 (no_latch_written key s kept p written) i)))))
          (owns_unlocked (spec_by key) c kept.handed s.homes kept.shows.owns k p w t c.history (its_place key s kept id a None None at) here few
          (λ q apart. has-held_without_other Shared a.core.held p q apart ∙ ap (λ (u : PassState). has (shares_of u) q) (sym (its_core key s kept id a None None at)))
          homes (set kept.handed p false) rows refl (λ q apart. get_or-set_other kept.handed p q false false apart)
          (λ j q l apart. unlocked_own_else n p none_there y s.homes others j q (low key s kept q l) (low key s kept p here) apart)
          unshared_now
          (λ j below. unlocked_own n p none_there y s.homes others j (let m = kept.shows.passes in omega (arith, below)) (own_inside key s kept j p below lt)))
          (handed_off kept.handed p None w (λ m. (held_without Shared p p a.core.held m).1 refl) (handed_less kept.handed None a.core w (λ q m. (held_without Shared p q a.core.held m).0) (its_handed key s kept id a None at)))
          (λ j u entering apart is h. handed_off kept.handed p entering u (unshared_written key s kept p written j u is) h)),
      (λ q e. (let same : p ≡ q = omega arith in (ap (λ z. pass_view (with_core a (released a.core z))) same, carried_unlocked n p none_there y s.homes others ∙ dropped))),
    )
  where
    mine : writer_mark (stripe_at kept.core.stripes p).keeper ≡ suc a.core.number
    mine = mark_of_writer (stripe_at kept.core.stripes p).keeper a.core.number
        (sym (((good_of key s kept).passes a.core.number a.core (its_pass key s kept id a None None at)).writes p) ∙ has_in (writes_of a.core) p held)

    written : has_writer (stripe_at kept.core.stripes p).keeper ≡ true
    written = marked (stripe_at kept.core.stripes p).keeper mine
      where
        marked : (x : Keeper) → writer_mark x ≡ suc a.core.number → has_writer x ≡ true
        marked (Home rows) e = absurd (omega arith)
        marked (Writer j) e = refl

    left : (slice_index s.words (stripe_word p) + (2 ^ 64 - mark)) % 2 ^ 64 ≡ 0 + 65536 * length (stripe_at kept.core.stripes p).counted
    left = let m = made key s kept p lt in let i = m.is in let b = m.mark in let d = m.passes in let f = m.count in let g = mine in let h = small in omega arith

    few : length kept.core.stripes ≤ 256
    few = let n = few_stripes key s kept in let m = (good_of key s kept).all_stripes in omega arith

    clear : get_or (set kept.handed p false) p false ≡ false
    clear = get_or-set_same kept.handed p false false (let n = kept.shows.handed_count in omega arith)

    -- nobody shares the stripe once it is given back
    unshared_now : (j : ℕ) → j < length kept.core.passes → has (shares_of (pass_at (set kept.core.passes a.core.number (released a.core p)) j)) p ≡ false
    unshared_now j below = elim (cases_eq j a.core.number) [
      | inl e ↦ ap (λ (u : PassState). has (shares_of u) p) (ap (pass_at (set kept.core.passes a.core.number (released a.core p))) e ∙ get_or-set_same kept.core.passes a.core.number (released a.core p) no_pass (its_place key s kept id a None None at))
          ∙ has-held_without_same Shared a.core.held p
      | inr apart ↦ ap (λ (u : PassState). has (shares_of u) p) (get_or-set_other kept.core.passes a.core.number j (released a.core p) no_pass apart)
          ∙ not_has (shares_of (pass_at kept.core.passes j)) p (unshared_written key s kept p written j (pass_at kept.core.passes j) (pass_there key s kept kept.core.passes j below))
    ]

    -- the slots behind those that were given back
    dropped : others ≡ drop (suc (passes_in slots)) ((slot_place p, Apart (kept_of (spec_by key) (rows_of_hold a.core.held p))) ∷ own_hands key.passes p (λ j. Empty) ++ others)
    dropped = sym (ap (λ m. drop m (own_hands key.passes p (λ j. Empty) ++ others)) (omega (arith, many)) ∙ behind_owns key.passes p (λ j. Empty) others)
