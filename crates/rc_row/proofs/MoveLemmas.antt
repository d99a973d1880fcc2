-- One pass changes, at its own seat, and the rule is kept.
use Rattle.std.proofs.Common.{◌≡◌, ◌≢◌, ℕ, suc, ◌<◌, ◌≤◌, ◌==◌, ◌||◌, Bool, true, false, List, [], ◌∷◌, ◌++◌, length, set, Option, Some, None, sym, ap, ◌∙◌, refl, subst, inl, inr, arith, length-set, length-append}
use Rattle.rc_row.proofs.Imports.{slice_index, slice_index_or, slice_get, cases_eq, append-nil, set-get_or, get_or_from_slice_get, Entry, IsPrefix, prefix_again, CoreState, PassState, StripeState, no_pass, pass_at, stripe_at, with_pass, at_below, get_set_same, get_set_other, State, at_set, set_else, Key, Refusal, Standing, View, Slot, compiled_by, spec_by, stripes_by, stripe_word, latch_word, word_of, view_of, at_first_by, AreKnown, AreSeatedAt, AreTold, HasHanded, HasLatch, HaveHanded, HaveLatch, IsTold, IsTrueView, has_pass, HasSeat, HomesAre, IsKept, OwnsAre, RowStep, CanStep, after_step, last_of, pass_of, refusal_of, refusal_where, refusals_in, row_state, can_go_on, goes_on, others_refusals, own_refusals, refusals_last, refusals_length, refusals_of, state_of}
use mathlib.Core.Option.{some, some-injective, some-ne-none}
use lib.ListN.{get_elem?}
use Rattle.rc_row.proofs.ListLemmas.{set_there}

-- what was told of a history is so of a longer one
pub still_known : (history longer : List Entry) (known : List (List Entry)) → IsPrefix history longer → AreKnown history known → AreKnown longer known
still_known history longer known grows f k d lt = prefix_again (slice_index_or known k d) history longer (f k d lt) grows

prefix_length : (earlier later : List Entry) → IsPrefix earlier later → length earlier ≤ length later
prefix_length earlier later (more, is) = let n = ap (λ (l : List Entry). length l) is in let m = length-append earlier more in omega arith

-- the passes of another seat are as before
others_seated : (passes : List PassState) (seat : ℕ → ℕ) (id other k : ℕ) (w : PassState) (more : List Standing) → seat k ≡ id → other ≢ id → AreSeatedAt passes seat other more → AreSeatedAt (set passes k w) seat other more
others_seated passes seat id other k w [] is apart f = tt
others_seated passes seat id other k w (s ∷ more) is apart f = (
  (get_set_other passes k s.core.number w (λ e. apart (sym f.0.1 ∙ ap seat e ∙ is)) ∙ f.0.0, f.0.1),
  others_seated passes seat id other k w more is apart f.1,
)

-- and so are their latches
others_latched : (passes : List PassState) (seat : ℕ → ℕ) (id other k : ℕ) (latches now : List ℕ) (latch : Option ℕ) (more : List Standing) → seat k ≡ id → other ≢ id
    → ((j p : ℕ) → j ≢ k → (slice_index now p == suc j) ≡ (slice_index latches p == suc j)) → AreSeatedAt passes seat other more → HaveLatch latches latch more → HaveLatch now latch more
others_latched passes seat id other k latches now latch [] is apart same f a = tt
others_latched passes seat id other k latches now latch (s ∷ more) is apart same f a = (
  record { at = λ p. a.0.at p ∙ sym (same s.core.number p (λ e. apart (sym f.0.1 ∙ ap seat e ∙ is))); shares = a.0.shares; idle = a.0.idle },
  others_latched passes seat id other k latches now latch more is apart same f.1 a.1,
)

-- and what they share, where this is handed out
others_handed : (passes : List PassState) (seat : ℕ → ℕ) (id other k : ℕ) (handed now : List Bool) (entering : Option ℕ) (more : List Standing) → seat k ≡ id → other ≢ id
    → ((j : ℕ) (u : PassState) (e : Option ℕ) → j ≢ k → slice_get passes j ≡ Some u → HasHanded handed e u → HasHanded now e u) → AreSeatedAt passes seat other more → HaveHanded handed entering more → HaveHanded now entering more
others_handed passes seat id other k handed now entering [] is apart same f a = tt
others_handed passes seat id other k handed now entering (s ∷ more) is apart same f a = (
  same s.core.number s.core entering (λ e. apart (sym f.0.1 ∙ ap seat e ∙ is)) f.0.0 a.0,
  others_handed passes seat id other k handed now entering more is apart same f.1 a.1,
)

-- and what they were told of, where the history goes on and only the pass k makes the step
others_told : (passes : List PassState) (seat : ℕ → ℕ) (id other k : ℕ) (history longer : List Entry) (refusals later : ℕ → List Refusal) (more : List Standing) → seat k ≡ id → other ≢ id
    → IsPrefix history longer → ((j : ℕ) → k ≢ j → later j ≡ refusals j) → AreSeatedAt passes seat other more → AreTold history refusals more → AreTold longer later more
others_told passes seat id other k history longer refusals later [] is apart grows same f a = tt
others_told passes seat id other k history longer refusals later (s ∷ more) is apart grows same f a =
    let its : later s.core.number ≡ refusals s.core.number = same s.core.number (λ e. apart (sym f.0.1 ∙ ap seat (sym e) ∙ is)) in (
      record {
        count = a.0.count ∙ ap (λ (l : List Refusal). length l) (sym its);
        last = a.0.last ∙ ap last_of (sym its);
        known = still_known history longer s.known grows a.0.known;
      },
      others_told passes seat id other k history longer refusals later more is apart grows same f.1 a.1,
    )

-- ---- refused steps of the pass that makes the step

-- a pass that makes a step which is a refusal, or none
abbrev pub Refuses : Option Refusal → Standing → Standing → Type 0
Refuses None a b = (b.refusals ≡ a.refusals) × (b.last_refusal ≡ a.last_refusal)
Refuses (Some r) a b = (b.refusals ≡ suc a.refusals) × (b.last_refusal ≡ Some r)

-- so it has one refusal more, or the same
told_so : (history longer : List Entry) (refusals later : List Refusal) (a b : Standing) (r : Option Refusal) → IsTold history refusals a → later ≡ refusals ++ refusal_where true r
    → Refuses r a b → AreKnown longer b.known → IsTold longer later b
told_so history longer refusals later a b None f is same known =
    let its : later ≡ refusals = is ∙ append-nil refusals in
    record { count = same.0 ∙ f.count ∙ ap (λ (l : List Refusal). length l) (sym its); last = same.1 ∙ f.last ∙ ap last_of (sym its); known = known }
told_so history longer refusals later a b (Some r) f is more known = record {
  count = more.0 ∙ ap suc f.count ∙ sym (ap (λ (l : List Refusal). length l) is ∙ refusals_length refusals r);
  last = more.1 ∙ sym (ap last_of is ∙ refusals_last refusals r);
  known = known;
}

-- the state with these passes
abbrev with_passes : CoreState → List PassState → CoreState
with_passes c passes = record c { passes = passes }

abbrev pub Home? : Type 0
Home? = mathlib.Core.Option.Option Slot

module _ (key : Key) (s : State Slot View) (kept : IsKept key s) (id : ℕ) (a : Standing) (l f : Option ℕ) (at : get_elem? s.views id ≡ some (view_of a l f)) where
  pub its_view : IsTrueView (state_of key s kept) (refusals_of key s kept) kept.seat id (view_of a l f)
  its_view = kept.views id (view_of a l f) at

  -- the pass of the seat is the core's
  pub its_pass : slice_get kept.core.passes a.core.number ≡ Some a.core
  its_pass = its_view.passes.0.0

  pub its_latch : HasLatch kept.latches l a.core
  its_latch = its_view.latch.0

  pub its_core : pass_at kept.core.passes a.core.number ≡ a.core
  its_core = get_or_from_slice_get kept.core.passes a.core.number a.core no_pass its_pass

  pub its_place : a.core.number < length kept.core.passes
  its_place = at_below kept.core.passes a.core.number a.core its_pass

  pub its_known : AreKnown kept.core.history a.known
  its_known = its_view.histories.0.known

  -- where the pass stays as it is, so does the state
  pub still_core : kept.core ≡ with_pass kept.core kept.core.history kept.core.stripes a.core.number a.core
  still_core = ap (with_passes kept.core) (sym (set-get_or kept.core.passes a.core.number no_pass) ∙ ap (set kept.core.passes a.core.number) its_core)

  -- each pass has its seat as before
  still_seated : (v : View) → ((k : ℕ) → has_pass (view_of a l f).passes k ≡ true → has_pass v.passes k ≡ true) → (k : ℕ) → HasSeat s.views kept.seat k → HasSeat (set s.views id v) kept.seat k
  still_seated v more k x = elim (cases_eq (kept.seat k) id) [
    | inl e ↦
        (let is : x.view ≡ view_of a l f = some-injective x.view (view_of a l f) (sym x.at ∙ ap (get_elem? s.views) e ∙ at) in
        record {
          view = v;
          at = ap (get_elem? (set s.views id v)) e ∙ set_there s.views id v (view_of a l f) at;
          has = more k (ap (λ (y : View). has_pass y.passes k) (sym is) ∙ x.has);
        })
    | inr apart ↦ record { view = x.view; at = set_else s.views id (kept.seat k) v apart ∙ x.at; has = x.has }
  ]

  -- one pass makes a step, by which it changes, with its latch
  pub moved : (b : Standing) (m g : Option ℕ) → b.core.number ≡ a.core.number
      → (x : RowStep) → CanStep (compiled_by key) (state_of key s kept) x → pass_of x ≡ a.core.number → Refuses (refusal_of (state_of key s kept) x) a b
      → (history : List Entry) (stripes : List StripeState) (latches : List ℕ)
      → after_step (compiled_by key) (state_of key s kept) x ≡ row_state (with_pass kept.core history stripes a.core.number b.core) latches
      → IsPrefix kept.core.history history → AreKnown history b.known
      → length latches ≡ length kept.latches → ((p : ℕ) → slice_index latches p ≤ length kept.core.passes) → HasLatch latches m b.core
      → ((j p : ℕ) → j ≢ a.core.number → (slice_index latches p == suc j) ≡ (slice_index kept.latches p == suc j))
      → (words : List ℕ) (homes : List Home?) → length words ≡ length s.words → slice_index words 0 ≡ length history
      → ((p : ℕ) → p < stripes_by key → slice_index words (stripe_word p) ≡ word_of (stripe_at stripes p))
      → ((p : ℕ) → p < stripes_by key → slice_index words (latch_word (stripes_by key) p) ≡ slice_index latches p)
      → length homes ≡ length s.homes → (handed : List Bool) → length handed ≡ length kept.handed → HomesAre (spec_by key) stripes latches handed homes
      → OwnsAre (spec_by key) (with_pass kept.core history stripes a.core.number b.core) handed homes → HasHanded handed g b.core
      → ((j : ℕ) (u : PassState) (entering : Option ℕ) → j ≢ a.core.number → slice_get kept.core.passes j ≡ Some u → HasHanded kept.handed entering u → HasHanded handed entering u)
      → IsKept key (record { words = words; homes = homes; views = set s.views id (view_of b m g) })
  moved b m g number x can mine refuses history stripes latches leads grows known many named its others words homes wide commit stripe_words latch_words width handed count right owned shared readers = record {
    compiled = kept.compiled;
    some_pass = kept.some_pass;
    few_passes = kept.few_passes;
    before = kept.before;
    run = kept.run ++ x ∷ [];
    steps = can_go_on key s kept x can;
    core = with_pass kept.core history stripes a.core.number b.core;
    latches = latches;
    reached = goes_on key s kept x ∙ leads;
    seat = kept.seat;
    handed = handed;
    readers = λ j v e. elim (at_set s.views id j (view_of b m g) v e) [
      | inl t ↦ subst (λ (w : View). HaveHanded handed w.entering w.passes) t.1 (shared, tt)
      | inr t ↦ others_handed kept.core.passes kept.seat id j a.core.number kept.handed handed v.entering v.passes its_view.passes.0.1 t.0 readers (kept.views j v t.1).passes (kept.readers j v t.1)
    ];
    shows = record {
      wide = wide ∙ kept.shows.wide;
      commit = commit;
      words = stripe_words;
      latch_words = latch_words;
      latch_count = many ∙ kept.shows.latch_count;
      slots = width ∙ kept.shows.slots;
      passes = length-set kept.core.passes a.core.number b.core ∙ kept.shows.passes;
      homes = right;
      handed_count = count ∙ kept.shows.handed_count;
      owns = owned;
    };
    named = λ p. (let n = length-set kept.core.passes a.core.number b.core in let x = named p in omega arith);
    seated = λ k lt. still_seated (view_of b m g) (λ j has. ap (λ n. (n == j) || false) number ∙ has) k (kept.seated k (let n = length-set kept.core.passes a.core.number b.core in omega arith));
    views = λ j v e. elim (at_set s.views id j (view_of b m g) v e) [
      | inl t ↦ subst (λ (z : ℕ × View). IsTrueView (row_state (with_pass kept.core history stripes a.core.number b.core) latches) later kept.seat z.0 z.1) (λ i. (sym t.0 i, t.1 i)) own
      | inr t ↦ (let f = kept.views j v t.1 in record {
        passes = others_seated kept.core.passes kept.seat id j a.core.number b.core v.passes its_view.passes.0.1 t.0 f.passes;
        rising = f.rising;
        latch = others_latched kept.core.passes kept.seat id j a.core.number kept.latches latches v.latch v.passes its_view.passes.0.1 t.0 others f.passes f.latch;
        histories = others_told kept.core.passes kept.seat id j a.core.number kept.core.history history (refusals_of key s kept) later v.passes its_view.passes.0.1 t.0 grows
            (λ k apart. others_refusals key s kept x k (λ e. apart (sym mine ∙ e))) f.passes f.histories;
        told = (let told = f.told in let more = prefix_length kept.core.history history grows in omega arith);
        known = still_known kept.core.history history v.known grows f.known;
      })
    ];
  }
    where
      later : ℕ → List Refusal
      later = refusals_in (compiled_by key) (at_first_by key) (kept.run ++ x ∷ [])

      own : IsTrueView (row_state (with_pass kept.core history stripes a.core.number b.core) latches) later kept.seat id (view_of b m g)
      own = record {
        passes = ((subst (λ n. slice_get (set kept.core.passes a.core.number b.core) n ≡ Some b.core) (sym number) (get_set_same kept.core.passes a.core.number b.core a.core its_pass), ap kept.seat number ∙ its_view.passes.0.1), tt);
        rising = ((λ y m. absurd m), tt);
        latch = (its, tt);
        histories = (
          told_so kept.core.history history (refusals_of key s kept a.core.number) (later b.core.number) a b (refusal_of (state_of key s kept) x) its_view.histories.0
              (ap later (number ∙ sym mine) ∙ own_refusals key s kept x (refusal_of (state_of key s kept) x) refl
              ∙ ap (λ k. refusals_of key s kept k ++ refusal_where true (refusal_of (state_of key s kept) x)) mine)
              refuses known,
          tt,
        );
        told = omega arith;
        known = λ k d lt. absurd (omega arith);
      }
