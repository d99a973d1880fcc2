-- Counting a reader in and out keeps the rule.
use Rattle.std.proofs.Common.{◌≡◌, ◌≢◌, ℕ, ◌+◌, ◌-◌, ◌%◌, ◌^◌, ◌<◌, ◌≤◌, ◌==◌, ◌⊎◌, Bool, true, false, not, List, ◌∷◌, length, get_or, set, Option, Some, None, sym, refl, ap, ◌∙◌, subst, inl, inr, arith, length-set}
use Rattle.rc_row.proofs.Imports.{slice_index, slice_get, cases_eq, eq-eqb, false≢true, ne_eqb, has, In, EdgeRow, Spec, Shared, CoreState, Keeper, Home, Writer, PassState, StripeState, has_writer, hold, is_at, pass_at, stripe_at, home_rows, shares_of, IsHigh, counted_in, shared, back, released, rows_of_hold, with_pass, with_counted, without_counted, IsGoodPass, above_itself, good_home, rows_of_it, share_takes, shares_held, high_uncounted, turning_counted, sharing_counted, State, step, Act, gives, keeps, takes, stepped, Allows, Valid, carried_after, Key, Standing, View, Empty, Apart, Handed, value_at, HasHanded, IsOwn, OwnsAre, Slot, own_place, slot_place, view_of, spec_by, stripes_by, stripe_word, writer_mark, word_of, pass_view, IsKept, found_at, found_by, refused_reader, refusal_at, good_of, KeepsOut, with_core, turned_by, found_in_word, HasEntered, HasTurned, EntersOrTurns, lacking, ToldAtEnter, ToldAtBack, ToldAtLeave, get_set_same, has-held_end, has-held_more, has-held_without_other, has-held_without_same, length-put_new, length-all_but, less_held, not_has, set_else}
use mathlib.Core.Option.{some, none}
use lib.ListN.{get_elem?}
use Rattle.rc_core.specs.declared.event.Event.TheVariants as event
use Rattle.rc_core.specs.ListLaws.{held_without}
use Rattle.rc_row.proofs.MoveLemmas.{Home?, Refuses, its_core, its_known, its_pass, its_place}
use Rattle.rc_row.proofs.StripeLemmas.{IsMade, by_true, by_false, has_one, home_is, unwritten_word, keeps_reader_out, there, made, few_stripes, homes_stay, its_handed, low, own_inside, moved_stripe, high_unwritten, word_tells, written_word}
use Rattle.rc_row.proofs.OwnRuleLemmas.{handed_entered, handed_found, own_home, own_value, owns_entered, owns_left, owns_stay, still_own}

-- what counting a reader in owes, where the number found in the word becomes n
abbrev EnterOwes : Key → ℕ → ℕ → Standing → List (ℕ × Slot) → State Slot View → ℕ → ℕ → Type 0
EnterOwes key p id a carried s n found = (w : View) × (act : Act Slot) × Valid s.homes carried act × IsKept key (stepped s (stripe_word p) n id carried w act) × EntersOrTurns key (pass_view a, carried) p found (w, carried_after carried act)

module _ (key : Key) (p id : ℕ) (a : Standing) (lt : p < stripes_by key) (s : State Slot View) (kept : IsKept key s) (f : Option ℕ) (at : get_elem? s.views id ≡ some (view_of a None f)) where
  few : length kept.core.stripes ≤ 256
  few = let n = few_stripes key s kept in let m = (good_of key s kept).all_stripes in omega arith

  -- the word with one reader less
  less_word : In a.core.number (stripe_at kept.core.stripes p).counted → slice_index s.words (stripe_word p) < 18446744073709551616
      → (slice_index s.words (stripe_word p) + (2 ^ 64 - 65536)) % 2 ^ 64 ≡ word_of (without_counted (stripe_at kept.core.stripes p) a.core.number)
  less_word counted small =
      let less = length-all_but a.core.number (stripe_at kept.core.stripes p).counted ((good_of key s kept).stripes p (there key s kept p lt)).rising counted in
      let m = made key s kept p lt in let i = m.is in let b = m.mark in let d = m.passes in let f = m.count in omega arith

  -- own slots stay where a reader is counted in or out who doesn't share the stripe
  owns_counted : (t : StripeState) (w : PassState) → t.keeper ≡ (stripe_at kept.core.stripes p).keeper → shares_of w ≡ shares_of a.core
      → OwnsAre (spec_by key) (with_pass kept.core kept.core.history (set kept.core.stripes p t) a.core.number w) kept.handed s.homes
  owns_counted t w same shares =
      let both : (q : ℕ) → has (shares_of w) q ≡ has (shares_of (pass_at kept.core.passes a.core.number)) q = (λ q. ap (λ (xs : List ℕ). has xs q) (shares ∙ ap shares_of (sym (its_core key s kept id a None f at)))) in
      owns_stay (spec_by key) kept.core kept.handed s.homes kept.shows.owns a.core.number p w t kept.core.history (its_place key s kept id a None f at) (there key s kept p lt) few (λ q apart. both q)
      s.homes (λ j q b l. refl) same (both p)

  -- what a pass shares has the rows that lie at home
  pub shared_home : In p (shares_of a.core) → (stripe_at kept.core.stripes p).keeper ≡ Home (rows_of_hold a.core.held p)
  shared_home m =
      let is : slice_get kept.core.passes a.core.number ≡ Some a.core = its_pass key s kept id a None f at in
      let mine : IsGoodPass (spec_by key) kept.core.history kept.core.stripes a.core.number a.core = (good_of key s kept).passes a.core.number a.core is in
      let x : Keeper = (stripe_at kept.core.stripes p).keeper in
      let free : has_writer x ≡ false = mine.beside p m in
      home_is x free ∙ ap Home (good_home (spec_by key) kept.core.history (length kept.core.passes) p x free ((good_of key s kept).stripes p (there key s kept p lt)).keeper
      ∙ sym (rows_of_it (spec_by key) kept.core a.core.number p a.core (good_of key s kept) is (there key s kept p lt) a.core.held mine.rows (shares_held a.core p m)))

module _ (key : Key) (p id : ℕ) (a : Standing) (carried : List (ℕ × Slot)) (lt : p < stripes_by key) (s : State Slot View) (kept : IsKept key s) (at : get_elem? s.views id ≡ some (pass_view a)) where
  -- the word with one reader more
  more_word : IsHigh a.core p → (found : ℕ) → slice_index s.words (stripe_word p) ≡ found → (found + 65536) % 2 ^ 64 ≡ word_of (with_counted (stripe_at kept.core.stripes p) a.core.number)
  more_word high found read =
      let more = length-put_new a.core.number (stripe_at kept.core.stripes p).counted (high_uncounted (spec_by key) kept.core (good_of key s kept) p a.core.number a.core (its_pass key s kept id a None None at) high) in
      let m = made key s kept p lt in let i = m.is in let b = m.mark in let d = m.passes in let f = m.count in omega arith

  -- of a pass that found this in its own slot
  handed_with : (w : PassState) (own : Slot) (rows : List EdgeRow) → ((q : ℕ) → In q (shares_of w) → (q ≡ p) ⊎ In q (shares_of a.core)) → IsOwn (spec_by key) (get_or kept.handed p false) rows own → HasHanded kept.handed (lacking p own) w
  handed_with w Empty rows more is = handed_entered kept.handed p a.core w more (its_handed key s kept id a None at)
  handed_with w (Apart x) rows more is = absurd is
  handed_with w (Handed x) rows more is = handed_found kept.handed p a.core w more is.0 (its_handed key s kept id a None at)

  -- reader in, where nobody writes
  enter_shares : IsHigh a.core p → (found : ℕ) → slice_index s.words (stripe_word p) ≡ found → found % 65536 ≡ 0 → EnterOwes key p id a carried s ((found + 65536) % 2 ^ 64) found
  enter_shares high found read free =
      let k : ℕ = a.core.number in
      let c : CoreState = kept.core in
      let t : StripeState = stripe_at kept.core.stripes p in
      let here : p < length kept.core.stripes = there key s kept p lt in
      let place : a.core.number < length kept.core.passes = its_place key s kept id a None None at in
      let is : slice_get kept.core.passes a.core.number ≡ Some a.core = its_pass key s kept id a None None at in
      let rows : List EdgeRow = home_rows (stripe_at kept.core.stripes p).keeper in
      let w : PassState = shared a.core p rows in
      let home : (stripe_at kept.core.stripes p).keeper ≡ Home (home_rows (stripe_at kept.core.stripes p).keeper) = home_is t.keeper (unwritten_word t.keeper unmarked) in
      let own : Slot = value_at s.homes (own_place a.core.number p) in
      let homes : List Home? = set s.homes (own_place a.core.number p) none in
      let apart_now : has (shares_of (pass_at kept.core.passes a.core.number)) p ≡ false = ap (λ (u : PassState). has (shares_of u) p) (its_core key s kept id a None None at)
      ∙ not_has (shares_of a.core) p (λ m. above_itself a.core p high.above (shares_held a.core p m)) in
      let is_own : IsOwn (spec_by key) (get_or kept.handed p false) (home_rows (stripe_at kept.core.stripes p).keeper) (value_at s.homes (own_place a.core.number p)) =
      own_value (spec_by key) c kept.handed s.homes kept.shows.owns p here rows home k place apart_now in
      let good = share_takes (spec_by key) c k p a.core (good_of key s kept) is here rows home high in (
        view_of (with_core a w) None (lacking p own),
        takes (own_place k p) own,
        own_home (spec_by key) c kept.handed s.homes kept.shows.owns p here rows home k place apart_now,
        moved_stripe key s kept id a None at (with_core a w) (lacking p own) refl (its_known key s kept id a None None at) (event.Share k p)
            ((place, here), subst (λ (u : PassState). IsHigh u p) (sym (its_core key s kept id a None None at)) high) refl
            (subst (λ (x : Keeper). Refuses (refused_reader x p (pass_at c.passes k).held) a (with_core a w)) (sym home) (refl, refl))
            p ((found + 65536) % 2 ^ 64) (with_counted t k) lt (more_word high found read)
            (λ i. with_pass c c.history (set c.stripes p (with_counted t k)) k (counted_in (home i) (its_core key s kept id a None None at i) p))
            homes (length-set s.homes (own_place k p) none) kept.handed refl
            (homes_stay key s kept p (with_counted t k) homes lt (λ q l. set_else s.homes (own_place k p) (slot_place q) none (λ e. let b = low key s kept q l in omega (arith, b, e))) refl)
            (owns_entered (spec_by key) c kept.handed s.homes kept.shows.owns k p w (with_counted t k) c.history place here (few key p id a lt s kept None at)
            (λ q n. has-held_more Shared a.core.held (hold p Shared rows) q (λ e f. n f) ∙ ap (λ (u : PassState). has (shares_of u) q) (sym (its_core key s kept id a None None at)))
            rows refl home (has-held_end Shared a.core.held (hold p Shared rows) refl) (own_inside key s kept k p place lt))
            (handed_with w own rows (λ q m. elim (less_held Shared q a.core.held (hold p Shared rows) m) [ inl x ↦ inr x | inr e ↦ inl e.1 ]) is_own)
            (λ j u entering n is' h. h),
        by_true (HasTurned key (pass_view a, carried) p found (view_of (with_core a w) None (lacking p own), (own_place k p, own) ∷ carried)) (found % 65536 == 0) (eq-eqb (found % 65536) 0 free) (record {
          rows = rows;
          own = own;
          is_own = still_own (spec_by key) rows (get_or kept.handed p false) own is_own;
          view = refl;
          slots = refl;
          one = has_one (spec_by key) (with_pass c c.history (set c.stripes p (with_counted t k)) k w) k w good (get_set_same c.passes k w a.core is);
        }),
      )
    where
      unmarked : writer_mark (stripe_at kept.core.stripes p).keeper ≡ 0
      unmarked = let m = made key s kept p lt in let i = m.is in let b = m.mark in let d = m.passes in omega arith

  -- reader in, where somebody writes
  enter_turns : IsHigh a.core p → (found : ℕ) → slice_index s.words (stripe_word p) ≡ found → found % 65536 ≢ 0 → EnterOwes key p id a carried s ((found + 65536) % 2 ^ 64) found
  enter_turns high found read taken =
      let k : ℕ = a.core.number in
      let t : StripeState = stripe_at kept.core.stripes p in
      let c : CoreState = kept.core in
      let tells : found_in_word found ≡ found_at (stripe_at kept.core.stripes p) =
      word_tells key (stripe_at kept.core.stripes p) found (subst (IsMade key (stripe_at kept.core.stripes p)) read (made key s kept p lt)) in
      let b : Standing = turned_by a p (found_in_word found) in (
        pass_view b,
        keeps,
        tt,
        moved_stripe key s kept id a None at b None refl (its_known key s kept id a None None at) (event.Share k p)
            ((its_place key s kept id a None None at, there key s kept p lt), subst (λ (u : PassState). IsHigh u p) (sym (its_core key s kept id a None None at)) high) refl
            (subst (λ (x : Keeper). Refuses (refused_reader x p (pass_at c.passes k).held) a b) (sym written.1)
            (refl, λ i. Some (refusal_at Shared p ((tells ∙ ap (λ (x : Keeper). found_by x t.counted) written.1) i) (sym (its_core key s kept id a None None at) i).held)))
            p ((found + 65536) % 2 ^ 64) (with_counted t k) lt (more_word high found read)
            (λ i. with_pass c c.history (set c.stripes p (with_counted t k)) k (counted_in (written.1 i) (its_core key s kept id a None None at i) p))
            s.homes refl kept.handed refl (homes_stay key s kept p (with_counted t k) s.homes lt (λ q l. refl) refl) (owns_counted key p id a lt s kept None at (with_counted t k) b.core refl refl)
            (its_handed key s kept id a None at) (λ j u entering n is' h. h),
        by_false (HasEntered key (pass_view a, carried) p (pass_view b, carried)) (found % 65536 == 0) (ne_eqb (found % 65536) 0 taken) (record {
          keeps_out = subst (λ n. KeepsOut Shared key.passes a.core.number (found_in_word n)) read
              (keeps_reader_out key t (slice_index s.words (stripe_word p)) k (made key s kept p lt) (high_unwritten key s kept id a at p high) (λ e. taken (ap (λ n. n % 65536) (sym read) ∙ e)));
          view = refl;
          slots = refl;
        }),
      )
    where
      marked : writer_mark (stripe_at kept.core.stripes p).keeper ≢ 0
      marked e = taken (let m = made key s kept p lt in let i = m.is in let f = m.count in omega arith)

      written : (j : ℕ) × ((stripe_at kept.core.stripes p).keeper ≡ Writer j)
      written = written_word (stripe_at kept.core.stripes p).keeper marked

-- a fetch-add on a stripe's word, by which a reader is counted in
pub enters : (key : Key) (slots p id : ℕ) (a : Standing) (carried : List (ℕ × Slot)) → p < stripes_by key → IsHigh a.core p
    → Allows (IsKept key) slots id (pass_view a, carried) (stripe_word p) (λ n. (n + 65536) % 2 ^ 64) (ToldAtEnter (Some key) (step slots (stripe_word p) 65536 0 none) (pass_view a, carried))
enters key slots p id a carried lt high s kept wide at small =
    let found : ℕ = slice_index s.words (stripe_word p) in
    elim (cases_eq (found % 65536) 0) [
      | inl free ↦ given (enter_shares key p id a carried lt s kept at high found refl free)
      | inr taken ↦ given (enter_turns key p id a carried lt s kept at high found refl taken)
    ]
  where
    given : EnterOwes key p id a carried s ((slice_index s.words (stripe_word p) + 65536) % 2 ^ 64) (slice_index s.words (stripe_word p))
        → (w : View) × (act : Act Slot) × Valid s.homes carried act × IsKept key (stepped s (stripe_word p) ((slice_index s.words (stripe_word p) + 65536) % 2 ^ 64) id carried w act)
        × ToldAtEnter (Some key) (step slots (stripe_word p) 65536 0 none) (pass_view a, carried) (slice_index s.words (stripe_word p)) (w, carried_after carried act)
    given t = (t.0, t.1, t.2, t.3, λ q e. (let same : p ≡ q = omega arith in subst (λ z. EntersOrTurns key (pass_view a, carried) z (slice_index s.words (stripe_word p)) (t.0, carried_after carried t.1)) same t.4))

-- a fetch-sub on a stripe's word, by a reader that found a writer
pub backs : (key : Key) (slots p id : ℕ) (a : Standing) (carried : List (ℕ × Slot)) → p < stripes_by key → a.core.turning ≡ Some p
    → Allows (IsKept key) slots id (pass_view a, carried) (stripe_word p) (λ n. (n + (2 ^ 64 - 65536)) % 2 ^ 64) (ToldAtBack (step slots (stripe_word p) 65536 0 none) (pass_view a, carried))
backs key slots p id a carried lt here s kept wide at small =
    let k : ℕ = a.core.number in
    let t : StripeState = without_counted (stripe_at kept.core.stripes p) k in
    let is : slice_get kept.core.passes a.core.number ≡ Some a.core = its_pass key s kept id a None None at in
    let w : PassState = back a.core in (
      pass_view (with_core a w),
      keeps,
      tt,
      moved_stripe key s kept id a None at (with_core a w) None refl (its_known key s kept id a None None at) (event.Back k p)
          ((its_place key s kept id a None None at, there key s kept p lt), ap (λ (u : PassState). u.turning) (its_core key s kept id a None None at) ∙ here) refl (refl, refl)
          p ((slice_index s.words (stripe_word p) + (2 ^ 64 - 65536)) % 2 ^ 64) t lt
          (less_word key p id a lt s kept None at (turning_counted (spec_by key) kept.core (good_of key s kept) p k a.core is here) small)
          (ap (λ (u : PassState). with_pass kept.core kept.core.history (set kept.core.stripes p t) k (back u)) (its_core key s kept id a None None at))
          s.homes refl kept.handed refl (homes_stay key s kept p t s.homes lt (λ q l. refl) refl) (owns_counted key p id a lt s kept None at t w refl refl) (its_handed key s kept id a None at) (λ j u entering n is' h. h),
      (refl, refl),
    )

own_as : (spec : Spec) (rows : List EdgeRow) (lacks handed : Bool) (own : Slot) → (lacks ≡ false → handed ≡ true) → IsOwn spec (not lacks) rows own → IsOwn spec handed rows own
own_as spec rows lacks handed Empty out is = tt
own_as spec rows lacks handed (Apart x) out is = absurd is
own_as spec rows true handed (Handed x) out is = absurd (false≢true is.0)
own_as spec rows false handed (Handed x) out is = (out refl, is.1)

-- a fetch-sub on a stripe's word, by a reader that is done: its own slot, which was taken last, goes home
pub leaves : (key : Key) (slots p id : ℕ) (a : Standing) (lacks : Option ℕ) (own : Slot) (others : List (ℕ × Slot)) → p < stripes_by key → In p (shares_of a.core)
    → ((q : ℕ) → q ≢ p → is_at lacks q ≡ false) → IsOwn (spec_by key) (not (is_at lacks p)) (rows_of_hold a.core.held p) own
    → Allows (IsKept key) slots id (view_of a None lacks, (own_place a.core.number p, own) ∷ others) (stripe_word p) (λ n. (n + (2 ^ 64 - 65536)) % 2 ^ 64)
    (ToldAtLeave (step slots (stripe_word p) 65536 0 none) (view_of a None lacks, (own_place a.core.number p, own) ∷ others))
leaves key slots p id a lacks own others lt held only is_own s kept wide at small =
    let k : ℕ = a.core.number in
    let c : CoreState = kept.core in
    let t : StripeState = without_counted (stripe_at kept.core.stripes p) k in
    let here : p < length kept.core.stripes = there key s kept p lt in
    let place : a.core.number < length kept.core.passes = its_place key s kept id a None lacks at in
    let is : slice_get kept.core.passes a.core.number ≡ Some a.core = its_pass key s kept id a None lacks at in
    let rows : List EdgeRow = rows_of_hold a.core.held p in
    let w : PassState = released a.core p in
    let homes : List Home? = set s.homes (own_place a.core.number p) (some own) in (
      pass_view (with_core a w),
      gives,
      tt,
      moved_stripe key s kept id a lacks at (with_core a w) None refl (its_known key s kept id a None lacks at) (event.Leave k p)
          ((place, here), subst (λ (u : PassState). In p (shares_of u)) (sym (its_core key s kept id a None lacks at)) held) refl (refl, refl)
          p ((slice_index s.words (stripe_word p) + (2 ^ 64 - 65536)) % 2 ^ 64) t lt
          (less_word key p id a lt s kept lacks at (sharing_counted (spec_by key) kept.core (good_of key s kept) p k a.core is held) small)
          (ap (λ (u : PassState). with_pass kept.core kept.core.history (set kept.core.stripes p t) k (released u p)) (its_core key s kept id a None lacks at))
          homes (length-set s.homes (own_place k p) (some own)) kept.handed refl
          (homes_stay key s kept p t homes lt (λ q l. set_else s.homes (own_place k p) (slot_place q) (some own) (λ e. let b = low key s kept q l in omega (arith, b, e))) refl)
          (owns_left (spec_by key) c kept.handed s.homes kept.shows.owns k p w t c.history place here (few key p id a lt s kept lacks at)
          (λ q n. has-held_without_other Shared a.core.held p q n ∙ ap (λ (u : PassState). has (shares_of u) q) (sym (its_core key s kept id a None lacks at)))
          rows own refl (shared_home key p id a lt s kept lacks at held) (has-held_without_same Shared a.core.held p) (own_inside key s kept k p place lt)
          (own_as (spec_by key) rows (is_at lacks p) (get_or kept.handed p false) own (its_handed key s kept id a lacks at p held) is_own))
          (λ q m e. (let x = held_without Shared p q a.core.held m in its_handed key s kept id a lacks at q x.0 (only q x.1)))
          (λ j u entering n is' h. h),
      (λ q e. (let same : p ≡ q = omega arith in (ap (λ z. pass_view (with_core a (released a.core z))) same, refl))),
    )
