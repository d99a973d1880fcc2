-- Splitting and joining seats keep the rule.
use Rattle.std.proofs.Common.{◌≡◌, ◌≢◌, ℕ, zero, suc, ◌<◌, ◌≤◌, ◌==◌, ◌||◌, ◌⊎◌, Bool, false, List, [], ◌∷◌, ◌++◌, length, set, Some, None, if◌then◌else◌, sym, refl, ap, ◌∙◌, subst, inl, inr, arith}
use Rattle.rc_row.proofs.Imports.{slice_get, nat_cmp, Less, cases_eq, false≢true, eq-eqb, ne_eqb, eqb-true, or_left, or_right, nat_cmp_is, ranked, map-append, All-append, list_any-append, In, IsRising, Entry, IsPrefix, PassState, learned, or_false, rising_end, with_pass, State, Splits, Joins, at_set, set_else, set_again, at_longer, at_last, Key, Refusal, Standing, View, Slot, pass_view, note_view, passes_view, numbers_in, AreKnown, AreSeatedAt, AreTold, HasHanded, HasLatch, HaveHanded, HaveLatch, IsTold, IsTrueView, has_pass, HasSeat, IsKept, RowState, OfCore, row_state, good_of, refusals_of, state_of, after_learn, undealt, dealt, noted, informed, gathered, spent}
use mathlib.Core.Option.{some, some-injective, some-ne-none}
use lib.ListN.{get_elem?}
use Rattle.rc_core.specs.declared.event.Event.TheVariants as event
use Rattle.rc_row.proofs.ListLemmas.{set_there}
use Rattle.rc_row.proofs.MoveLemmas.{its_core, its_known, its_pass, its_place}
use Rattle.rc_row.proofs.StripeLemmas.{moved_alone}

at_end : {A : Type 0} → (l : List A) (a b : A) (j : ℕ) → get_elem? (l ++ a ∷ []) j ≡ some b → (get_elem? l j ≡ some b) ⊎ ((j ≡ length l) × (a ≡ b))
at_end [] a b zero e = inr (refl, some-injective a b e)
at_end [] a b (suc j) e = absurd (some-ne-none b (sym e))
at_end (x ∷ xs) a b zero e = inl e
at_end (x ∷ xs) a b (suc j) e = elim (at_end xs a b j e) [ inl y ↦ inl y | inr t ↦ inr (ap suc t.0, t.1) ]

less_from : (k y : ℕ) → nat_cmp k y ≡ Less → k < y
less_from k y e = ranked k y Less (sym e)

less_to : (k y : ℕ) → k < y → nat_cmp k y ≡ Less
less_to k y lt = sym (nat_cmp_is k y Less lt)

-- the views change, and the core's state doesn't
reseated : (key : Key) (s : State Slot View) (kept : IsKept key s) (seat : ℕ → ℕ) (views : List View)
    → ((k : ℕ) → HasSeat s.views kept.seat k → HasSeat views seat k)
    → ((j : ℕ) (v : View) → get_elem? views j ≡ some v → IsTrueView (state_of key s kept) (refusals_of key s kept) seat j v)
    → ((j : ℕ) (v : View) → get_elem? views j ≡ some v → HaveHanded kept.handed v.entering v.passes)
    → IsKept key (record { words = s.words; homes = s.homes; views = views })
reseated key s kept seat views still true_views readers = record {
  compiled = kept.compiled;
  some_pass = kept.some_pass;
  few_passes = kept.few_passes;
  before = kept.before;
  run = kept.run;
  steps = kept.steps;
  core = kept.core;
  latches = kept.latches;
  reached = kept.reached;
  seat = seat;
  shows = record { wide = kept.shows.wide; commit = kept.shows.commit; words = kept.shows.words; latch_words = kept.shows.latch_words; latch_count = kept.shows.latch_count; slots = kept.shows.slots; passes = kept.shows.passes; homes = kept.shows.homes; handed_count = kept.shows.handed_count; owns = kept.shows.owns };
  handed = kept.handed;
  readers = readers;
  named = kept.named;
  seated = λ k lt. still k (kept.seated k lt);
  views = true_views;
}

true_note : (now : RowState) (refusals : ℕ → List Refusal) (seat : ℕ → ℕ) (id n : ℕ) (known : List (List Entry)) → n ≤ length now.core.history → AreKnown now.core.history known
    → IsTrueView now refusals seat id (note_view n known)
true_note now refusals seat id n known le told = record { passes = tt; rising = tt; latch = tt; histories = tt; told = le; known = told }

none_known : (history : List Entry) → AreKnown history []
none_known history k d lt = absurd (omega arith)

-- a pass makes a note
pub notes : (key : Key) (id : ℕ) (a : Standing) → Splits (IsKept key) id (pass_view a) (pass_view a) (noted (pass_view a))
notes key id a s kept at =
    reseated key s kept kept.seat (set s.views id (pass_view a) ++ note_view a.core.seen a.known ∷ [])
    (λ k x. record { view = x.view; at = at_longer (set s.views id (pass_view a)) (note_view a.core.seen a.known ∷ []) (kept.seat k) x.view (ap (λ (l : List View). get_elem? l (kept.seat k)) (set_again s.views id (pass_view a) at) ∙ x.at); has = x.has })
    (λ j v e. elim (at_end (set s.views id (pass_view a)) (note_view a.core.seen a.known) v j e) [
      | inl was ↦ kept.views j v (subst (λ (l : List View). get_elem? l j ≡ some v) (set_again s.views id (pass_view a) at) was)
      | inr t ↦ subst (IsTrueView (state_of key s kept) (refusals_of key s kept) kept.seat j) t.1
          (true_note (state_of key s kept) (refusals_of key s kept) kept.seat j a.core.seen a.known ((good_of key s kept).passes a.core.number a.core (its_pass key s kept id a None None at)).seen (its_known key s kept id a None None at))
    ])
    (λ j v e. elim (at_end (set s.views id (pass_view a)) (note_view a.core.seen a.known) v j e) [
      | inl was ↦ kept.readers j v (subst (λ (l : List View). get_elem? l j ≡ some v) (set_again s.views id (pass_view a) at) was)
      | inr t ↦ subst (λ (w : View). HaveHanded kept.handed w.entering w.passes) t.1 tt
    ])

-- ---- a pass moves to another seat

abbrev moved_seat : (ℕ → ℕ) → ℕ → ℕ → ℕ → ℕ
moved_seat seat k new n = if n == k then new else seat n

seat_here : (seat : ℕ → ℕ) (k new : ℕ) → moved_seat seat k new k ≡ new
seat_here seat k new = ap (λ b. if b then new else seat k) (eq-eqb k k refl)

seat_else : (seat : ℕ → ℕ) (k new n : ℕ) → n ≢ k → moved_seat seat k new n ≡ seat n
seat_else seat k new n apart = ap (λ b. if b then new else seat n) (ne_eqb n k apart)

still_at : (passes : List PassState) (seat now : ℕ → ℕ) (id : ℕ) (more : List Standing) → ((n : ℕ) → seat n ≡ id → now n ≡ id) → AreSeatedAt passes seat id more → AreSeatedAt passes now id more
still_at passes seat now id [] f a = tt
still_at passes seat now id (x ∷ more) f a = ((a.0.0, f x.core.number a.0.1), still_at passes seat now id more f a.1)

-- passes with higher numbers stay
higher_stay : (passes : List PassState) (seat : ℕ → ℕ) (id k new : ℕ) (more : List Standing) → ((y : ℕ) → In y (numbers_in more) → nat_cmp k y ≡ Less) → AreSeatedAt passes seat id more → AreSeatedAt passes (moved_seat seat k new) id more
higher_stay passes seat id k new [] above a = tt
higher_stay passes seat id k new (x ∷ more) above a = (
  (a.0.0, seat_else seat k new x.core.number (λ e. (let l = less_from k x.core.number (above x.core.number (inl refl)) in omega arith)) ∙ a.0.1),
  higher_stay passes seat id k new more (λ y m. above y (inr m)) a.1,
)

others_stay : (now : RowState) (refusals : ℕ → List Refusal) (seat : ℕ → ℕ) (k new j from : ℕ) (v : View) → seat k ≡ from → j ≢ from → IsTrueView now refusals seat j v → IsTrueView now refusals (moved_seat seat k new) j v
others_stay now refusals seat k new j from v is apart f = record {
  passes = still_at now.core.passes seat (moved_seat seat k new) j v.passes (λ n e. seat_else seat k new n (λ same. apart (sym e ∙ ap seat same ∙ is)) ∙ e) f.passes;
  rising = f.rising;
  latch = f.latch;
  histories = f.histories;
  told = f.told;
  known = f.known;
}

-- the opener deals a pass
pub deals : (key : Key) (id : ℕ) (a : Standing) (more : List Standing) → Splits (IsKept key) id (passes_view (a ∷ more)) (undealt (passes_view (a ∷ more))) (dealt (passes_view (a ∷ more)))
deals key id a more s kept at =
    let passes : List PassState = kept.core.passes in
    let new : ℕ = length (set s.views id (passes_view more)) in
    let views : List View = set s.views id (passes_view more) ++ pass_view a ∷ [] in
    let now : ℕ → ℕ = moved_seat kept.seat a.core.number new in
    let mine : IsTrueView (state_of key s kept) (refusals_of key s kept) kept.seat id (passes_view (a ∷ more)) = kept.views id (passes_view (a ∷ more)) at in
    reseated key s kept now views
    (λ k x. elim (cases_eq k a.core.number) [
      | inl e ↦ record {
        view = pass_view a;
        at = ap (λ n. get_elem? views (now n)) e ∙ ap (get_elem? views) (seat_here kept.seat a.core.number new) ∙ at_last (set s.views id (passes_view more)) (pass_view a) new refl;
        has = ap (λ b. b || false) (eq-eqb a.core.number k (sym e));
      }
      | inr apart ↦ elim (cases_eq (kept.seat k) id) [
        | inl e ↦ record {
          view = passes_view more;
          at = at_longer (set s.views id (passes_view more)) (pass_view a ∷ []) (now k) (passes_view more)
              (ap (get_elem? (set s.views id (passes_view more))) (seat_else kept.seat a.core.number new k apart ∙ e) ∙ set_there s.views id (passes_view more) (passes_view (a ∷ more)) at);
          has = ap (λ b. b || has_pass more k) (sym (ne_eqb a.core.number k (λ q. apart (sym q))))
              ∙ ap (λ (v : View). has_pass v.passes k) (sym (some-injective x.view (passes_view (a ∷ more)) (sym x.at ∙ ap (get_elem? s.views) e ∙ at))) ∙ x.has;
        }
        | inr other ↦ record {
          view = x.view;
          at = at_longer (set s.views id (passes_view more)) (pass_view a ∷ []) (now k) x.view
              (ap (get_elem? (set s.views id (passes_view more))) (seat_else kept.seat a.core.number new k apart) ∙ set_else s.views id (kept.seat k) (passes_view more) other ∙ x.at);
          has = x.has;
        }
      ]
    ])
    (λ j v e. elim (at_end (set s.views id (passes_view more)) (pass_view a) v j e) [
      | inl was ↦ elim (at_set s.views id j (passes_view more) v was) [
        | inl t ↦ subst (λ (z : ℕ × View). IsTrueView (state_of key s kept) (refusals_of key s kept) now z.0 z.1) (λ i. (sym t.0 i, t.1 i))
            (record { passes = higher_stay passes kept.seat id a.core.number new more mine.rising.0 mine.passes.1; rising = mine.rising.1; latch = mine.latch.1; histories = mine.histories.1; told = omega arith; known = none_known kept.core.history })
        | inr t ↦ others_stay (state_of key s kept) (refusals_of key s kept) kept.seat a.core.number new j id v mine.passes.0.1 t.0 (kept.views j v t.1)
      ]
      | inr t ↦ subst (λ (z : ℕ × View). IsTrueView (state_of key s kept) (refusals_of key s kept) now z.0 z.1) (λ i. (sym t.0 i, t.1 i))
          (record { passes = ((mine.passes.0.0, seat_here kept.seat a.core.number new), tt); rising = ((λ y m. absurd m), tt); latch = (mine.latch.0, tt); histories = (mine.histories.0, tt); told = omega arith; known = none_known kept.core.history })
    ])
    (λ j v e. elim (at_end (set s.views id (passes_view more)) (pass_view a) v j e) [
      | inl was ↦ elim (at_set s.views id j (passes_view more) v was) [
        | inl t ↦ subst (λ (w : View). HaveHanded kept.handed w.entering w.passes) t.1 (kept.readers id (passes_view (a ∷ more)) at).1
        | inr t ↦ kept.readers j v t.1
      ]
      | inr t ↦ subst (λ (w : View). HaveHanded kept.handed w.entering w.passes) t.1 ((kept.readers id (passes_view (a ∷ more)) at).0, tt)
    ])

-- ---- a seat is joined away

-- a spent seat says nothing
spends : (key : Key) (s : State Slot View) (kept : IsKept key s) (other n : ℕ) (known : List (List Entry)) → get_elem? s.views other ≡ some (note_view n known) → IsKept key (record { words = s.words; homes = s.homes; views = set s.views other spent })
spends key s kept other n known note =
    reseated key s kept kept.seat (set s.views other spent)
    (λ k x. record {
      view = x.view;
      at = set_else s.views other (kept.seat k) spent
          (λ e. false≢true (ap (λ (v : View). has_pass v.passes k) (sym (some-injective x.view (note_view n known) (sym x.at ∙ ap (get_elem? s.views) e ∙ note))) ∙ x.has)) ∙ x.at;
      has = x.has;
    })
    (λ j v e. elim (at_set s.views other j spent v e) [
      | inl t ↦ subst (IsTrueView (state_of key s kept) (refusals_of key s kept) kept.seat j) t.1 (true_note (state_of key s kept) (refusals_of key s kept) kept.seat j 0 [] (omega arith) (none_known kept.core.history))
      | inr t ↦ kept.views j v t.1
    ])
    (λ j v e. elim (at_set s.views other j spent v e) [
      | inl t ↦ subst (λ (w : View). HaveHanded kept.handed w.entering w.passes) t.1 tt
      | inr t ↦ kept.readers j v t.1
    ])

-- a pass learns a note
pub learns : (key : Key) (id other : ℕ) (a : Standing) (n : ℕ) (known : List (List Entry))
    → Joins (IsKept key) id (pass_view a) other (note_view n known) (informed (pass_view a) (note_view n known)) spent
learns key id other a n known s kept at apart there =
    let b : Standing = after_learn n known a in
    let note : get_elem? s.views other ≡ some (note_view n known) = sym (set_else s.views id other (pass_view b) apart) ∙ there in
    let its : IsTrueView (state_of key s kept) (refusals_of key s kept) kept.seat other (note_view n known) = kept.views other (note_view n known) note in
    spends key (record { words = s.words; homes = s.homes; views = set s.views id (pass_view b) })
    (moved_alone key s kept id a None at b refl refl
    (All-append (λ (earlier : List Entry). IsPrefix earlier kept.core.history) a.known known (its_known key s kept id a None None at) its.known)
    (OfCore (event.Learn a.core.number n)) (its_place key s kept id a None None at, its.told) refl (refl, refl)
    (ap (λ (u : PassState). row_state (with_pass kept.core kept.core.history kept.core.stripes a.core.number (learned u n)) kept.latches) (its_core key s kept id a None None at)))
    other n known there

seated_end : (passes : List PassState) (seat : ℕ → ℕ) (id : ℕ) (more : List Standing) (b : Standing) → AreSeatedAt passes seat id more → slice_get passes b.core.number ≡ Some b.core → seat b.core.number ≡ id → AreSeatedAt passes seat id (more ++ b ∷ [])
seated_end passes seat id [] b f at is = ((at, is), tt)
seated_end passes seat id (x ∷ more) b f at is = (f.0, seated_end passes seat id more b f.1 at is)

latch_end : (latches : List ℕ) (more : List Standing) (b : Standing) → HaveLatch latches None more → HasLatch latches None b.core → HaveLatch latches None (more ++ b ∷ [])
latch_end latches [] b f its = (its, tt)
latch_end latches (x ∷ more) b f its = (f.0, latch_end latches more b f.1 its)

handed_end : (handed : List Bool) (more : List Standing) (b : Standing) → HaveHanded handed None more → HasHanded handed None b.core → HaveHanded handed None (more ++ b ∷ [])
handed_end handed [] b f its = (its, tt)
handed_end handed (x ∷ more) b f its = (f.0, handed_end handed more b f.1 its)

told_end : (history : List Entry) (refusals : ℕ → List Refusal) (more : List Standing) (b : Standing) → AreTold history refusals more → IsTold history (refusals b.core.number) b → AreTold history refusals (more ++ b ∷ [])
told_end history refusals [] b f its = (its, tt)
told_end history refusals (x ∷ more) b f its = (f.0, told_end history refusals more b f.1 its)

has_either : (more : List Standing) (b : Standing) (k : ℕ) → has_pass (more ++ b ∷ []) k ≡ (has_pass more k || ((b.core.number == k) || false))
has_either more b k = list_any-append (λ (x : Standing). x.core.number == k) more (b ∷ [])

-- a pass is gathered
pub gathers : (key : Key) (id other : ℕ) (more : List Standing) (b : Standing) → ((k : ℕ) → In k (numbers_in more) → k < b.core.number)
    → Joins (IsKept key) id (passes_view more) other (pass_view b) (gathered (passes_view more) (pass_view b)) spent
gathers key id other more b below s kept at apart there =
    let passes : List PassState = kept.core.passes in
    let all : View = passes_view (more ++ b ∷ []) in
    let views : List View = set (set s.views id (passes_view (more ++ b ∷ []))) other spent in
    let now : ℕ → ℕ = moved_seat kept.seat b.core.number id in
    let mine : IsTrueView (state_of key s kept) (refusals_of key s kept) kept.seat id (passes_view more) = kept.views id (passes_view more) at in
    let there_was : get_elem? s.views other ≡ some (pass_view b) = sym (set_else s.views id other (passes_view (more ++ b ∷ [])) apart) ∙ there in
    let theirs : IsTrueView (state_of key s kept) (refusals_of key s kept) kept.seat other (pass_view b) = kept.views other (pass_view b) there_was in
    let here : get_elem? (set (set s.views id (passes_view (more ++ b ∷ []))) other spent) id ≡ some (passes_view (more ++ b ∷ []))
    = set_else (set s.views id all) other id spent (λ q. apart (sym q)) ∙ set_there s.views id all (passes_view more) at in
    reseated key s kept now views
    (λ k x. elim (cases_eq k b.core.number) [
      | inl e ↦ record {
        view = all;
        at = ap (λ n. get_elem? views (now n)) e ∙ ap (get_elem? views) (seat_here kept.seat b.core.number id) ∙ here;
        has = has_either more b k ∙ or_right (has_pass more k) ((b.core.number == k) || false) (or_left (b.core.number == k) false (eq-eqb b.core.number k (sym e)));
      }
      | inr n ↦ elim (cases_eq (kept.seat k) id) [
        | inl e ↦ record {
          view = all;
          at = ap (get_elem? views) (seat_else kept.seat b.core.number id k n ∙ e) ∙ here;
          has = has_either more b k ∙ or_left (has_pass more k) ((b.core.number == k) || false)
              (ap (λ (v : View). has_pass v.passes k) (sym (some-injective x.view (passes_view more) (sym x.at ∙ ap (get_elem? s.views) e ∙ at))) ∙ x.has);
        }
        | inr away ↦ record {
          view = x.view;
          at = ap (get_elem? views) (seat_else kept.seat b.core.number id k n)
              ∙ set_else (set s.views id all) other (kept.seat k) spent
              (λ e. n (sym (eqb-true b.core.number k (sym (or_false (b.core.number == k)) ∙ ap (λ (v : View). has_pass v.passes k) (sym (some-injective x.view (pass_view b) (sym x.at ∙ ap (get_elem? s.views) e ∙ there_was))) ∙ x.has))))
              ∙ set_else s.views id (kept.seat k) all away ∙ x.at;
          has = x.has;
        }
      ]
    ])
    (λ j v e. elim (at_set (set s.views id all) other j spent v e) [
      | inl t ↦ subst (IsTrueView (state_of key s kept) (refusals_of key s kept) now j) t.1 (true_note (state_of key s kept) (refusals_of key s kept) now j 0 [] (omega arith) (none_known kept.core.history))
      | inr t ↦ elim (at_set s.views id j all v t.1) [
        | inl q ↦ subst (λ (z : ℕ × View). IsTrueView (state_of key s kept) (refusals_of key s kept) now z.0 z.1) (λ i. (sym q.0 i, q.1 i))
            (record {
              passes = seated_end passes now id more b (still_at passes kept.seat now id more (λ n is. stays n is) mine.passes) theirs.passes.0.0 (seat_here kept.seat b.core.number id);
              rising = subst (IsRising nat_cmp) (sym (map-append (λ (x : Standing). x.core.number) more (b ∷ []))) (rising_end nat_cmp (numbers_in more) b.core.number mine.rising (λ k m. less_to k b.core.number (below k m)));
              latch = latch_end kept.latches more b mine.latch theirs.latch.0;
              histories = told_end kept.core.history (refusals_of key s kept) more b mine.histories theirs.histories.0;
              told = omega arith;
              known = none_known kept.core.history;
            })
        | inr q ↦ others_stay (state_of key s kept) (refusals_of key s kept) kept.seat b.core.number id j other v theirs.passes.0.1 t.0 (kept.views j v q.1)
      ]
    ])
    (λ j v e. elim (at_set (set s.views id all) other j spent v e) [
      | inl t ↦ subst (λ (w : View). HaveHanded kept.handed w.entering w.passes) t.1 tt
      | inr t ↦ elim (at_set s.views id j all v t.1) [
        | inl q ↦ subst (λ (w : View). HaveHanded kept.handed w.entering w.passes) q.1 (handed_end kept.handed more b (kept.readers id (passes_view more) at) (kept.readers other (pass_view b) there_was).0)
        | inr q ↦ kept.readers j v q.1
      ]
    ])
  where
    stays : (n : ℕ) → kept.seat n ≡ id → moved_seat kept.seat b.core.number id n ≡ id
    stays n is = elim (cases_eq n b.core.number) [
      | inl same ↦ ap (moved_seat kept.seat b.core.number id) same ∙ seat_here kept.seat b.core.number id
      | inr apart' ↦ seat_else kept.seat b.core.number id n apart' ∙ is
    ]
