-- What a step of a pass makes of the core's state.
use Rattle.std.proofs.Common.{◌≡◌, ◌≢◌, ℕ, ◌+◌, ◌*◌, ◌<◌, ◌||◌, ◌==◌, Bool, true, false, List, [], ◌∷◌, length, get_or, set, Option, Some, None, sym, refl, ap, ◌∙◌, subst, inl, inr, arith, length-set}
use Rattle.rc_row.specs.Imports.{slice_index, slice_get, In, append_in_right, slice_get_in, Exclusive, EdgeRow, fragment_of, Entry, own_placed, replay, same_places, stands_in_other, PassState, Event, Keeper, Home, Writer, StripeState, has_writer, hold, home_rows, no_pass, pass_at, stripe_at, IsHigh, locked, IsAllowed, IsUnlocked, after, at_below, good_home, get_set_same, get_set_other, events_keep, pass_there, passes_determine, State}
use Rattle.std.proofs.lemmas.Bool.{cases_eq, false≢true, ne_eqb, eqb-true}
use Rattle.std.proofs.lemmas.List.{ext_get_or, get_or-set_same, get_or-set_other}
use Rattle.std.proofs.lemmas.Option.{get_or_from_slice_get}
use mathlib.Core.Option.{some}
use lib.ListN.{get_elem?}
use Rattle.rc_core.specs.declared.event.Event.TheVariants as event
use Rattle.atomic_table.proofs.Lists.{at_set}
use Rattle.rc_row.specs.declared.law.Key.{Key}
use Rattle.rc_row.specs.declared.law.Standing.{Standing}
use Rattle.rc_row.specs.declared.law.View.{View}
use Rattle.rc_row.specs.Law.{Slot, compiled_by, spec_by, stripes_by, stripe_word, writer_mark, word_of, pass_view, AreSeatedAt, has_pass, IsKept}
use Rattle.rc_row.specs.RunLaws.{good_of}
use Rattle.rc_row.specs.ShownLaws.{in_both}

abbrev pub Homes : Type 0
Homes = List (mathlib.Core.Option.Option Slot)

-- the state after a step of the seat id, which leaves it this view
abbrev pub later_by : State Slot View → List ℕ → Homes → ℕ → Standing → State Slot View
later_by s words homes id b = record { words = words; homes = homes; views = set s.views id (pass_view b) }

-- Where an event is allowed that changes the passes as a step did, the step is that event: whatever words and homes are, what is
-- shown after it is what the event leads to.
abbrev pub StepsAreEvents : Type 0
StepsAreEvents = (key : Key) (s : State Slot View) (now : IsKept key s) (id : ℕ) (a b : Standing) → get_elem? s.views id ≡ some (pass_view a) → b.core.number ≡ a.core.number
    → (words : List ℕ) (homes : Homes) (later : IsKept key (later_by s words homes id b))
    → (x : Event) → IsAllowed (compiled_by key) now.core x → (after (compiled_by key) now.core x).passes ≡ set now.core.passes a.core.number b.core
    → later.core ≡ after (compiled_by key) now.core x

-- the seat of a pass of a view
seat_of : (passes : List PassState) (seat : ℕ → ℕ) (id k : ℕ) (more : List Standing) → AreSeatedAt passes seat id more → has_pass more k ≡ true → seat k ≡ id
seat_of passes seat id k [] f has = absurd (false≢true has)
seat_of passes seat id k (s ∷ more) f has = elim (cases_eq s.core.number k) [
  | inl e ↦ ap seat (sym e) ∙ f.0.1
  | inr n ↦ seat_of passes seat id k more f.1 (sym (ap (λ b. b || has_pass more k) (ne_eqb s.core.number k n)) ∙ has)
]

module _ (key : Key) (s : State Slot View) (now : IsKept key s) (id : ℕ) (a b : Standing) (at : get_elem? s.views id ≡ some (pass_view a)) (number : b.core.number ≡ a.core.number)
    (words : List ℕ) (homes : Homes) (later : IsKept key (later_by s words homes id b)) where
  its : slice_get now.core.passes a.core.number ≡ Some a.core
  its = (now.views id (pass_view a) at).passes.0.0

  its_seat : now.seat a.core.number ≡ id
  its_seat = (now.views id (pass_view a) at).passes.0.1

  inside : a.core.number < length now.core.passes
  inside = at_below now.core.passes a.core.number a.core its

  one_pass : (j : ℕ) → j < length later.core.passes → get_or later.core.passes j no_pass ≡ get_or (set now.core.passes a.core.number b.core) j no_pass
  one_pass j lt =
      let x = later.seated j lt in
      elim (at_set s.views id (later.seat j) (pass_view b) x.view x.at) [
        | inl t ↦
            (let mine : has_pass (pass_view b).passes j ≡ true = ap (λ (v : View). has_pass v.passes j) t.1 ∙ x.has in
            let is : b.core.number ≡ j = one_number mine in
            let f = (later.views id (pass_view b) (ap (get_elem? (set s.views id (pass_view b))) (sym t.0) ∙ x.at ∙ ap some (sym t.1))).passes.0.0 in
            get_or_from_slice_get later.core.passes j b.core no_pass (ap (slice_get later.core.passes) (sym is) ∙ f)
            ∙ sym (ap (λ (n : ℕ). get_or (set now.core.passes a.core.number b.core) n no_pass) (sym is ∙ number) ∙ get_or-set_same now.core.passes a.core.number b.core no_pass inside))
        | inr t ↦
            (let here = now.views (later.seat j) x.view t.1 in
            let r = in_both later.core.passes now.core.passes later.seat now.seat (later.seat j) (later.seat j) j x.view.passes (later.views (later.seat j) x.view x.at).passes here.passes x.has in
            let apart : j ≢ a.core.number = λ e. t.0 (sym (seat_of now.core.passes now.seat (later.seat j) j x.view.passes here.passes x.has) ∙ ap now.seat e ∙ its_seat) in
            get_or_from_slice_get later.core.passes j r.0 no_pass r.1
            ∙ sym (get_or-set_other now.core.passes a.core.number j b.core no_pass apart ∙ get_or_from_slice_get now.core.passes j r.0 no_pass r.2))
      ]
    where
      one_number : {j : ℕ} → (b.core.number == j) || false ≡ true → b.core.number ≡ j
      one_number {j} e = go (b.core.number == j) refl e
        where
          go : (t : Bool) → (b.core.number == j) ≡ t → t || false ≡ true → b.core.number ≡ j
          go true q e' = eqb-true b.core.number j q
          go false q e' = absurd (false≢true e')

  pub passes_after : later.core.passes ≡ set now.core.passes a.core.number b.core
  passes_after =
      ext_get_or no_pass later.core.passes (set now.core.passes a.core.number b.core)
      (later.shows.passes ∙ sym now.shows.passes ∙ sym (length-set now.core.passes a.core.number b.core)) one_pass

pub steps_are_events : StepsAreEvents
steps_are_events key s now id a b at number words homes later x allowed same =
    passes_determine (spec_by key) later.core (after (compiled_by key) now.core x) (good_of key (later_by s words homes id b) later) (events_keep (compiled_by key) now.compiled now.core (good_of key s now) x allowed)
    (passes_after key s now id a b at number words homes later ∙ sym same)

-- ---- a lock

-- A step by which a pass has a stripe to write it, of which the word was 0, is the event Lock.
abbrev pub LocksAreEvents : Type 0
LocksAreEvents = (key : Key) (s : State Slot View) (now : IsKept key s) (id : ℕ) (a b : Standing) → get_elem? s.views id ≡ some (pass_view a)
    → (words : List ℕ) (homes : Homes) (later : IsKept key (later_by s words homes id b))
    → (p : ℕ) → p < stripes_by key → IsHigh a.core p → slice_index s.words (stripe_word p) ≡ 0
    → (rows : List EdgeRow) → b.core ≡ locked a.core p rows
    → IsAllowed (compiled_by key) now.core (event.Lock a.core.number p) × (later.core ≡ after (compiled_by key) now.core (event.Lock a.core.number p))

abbrev the : Option PassState → PassState
the (Some w) = w
the None = no_pass

module _ (key : Key) (s : State Slot View) (now : IsKept key s) (id : ℕ) (a b : Standing) (at : get_elem? s.views id ≡ some (pass_view a)) (number : b.core.number ≡ a.core.number)
    (words : List ℕ) (homes : Homes) (later : IsKept key (later_by s words homes id b)) where
  there_now : slice_get later.core.passes a.core.number ≡ Some b.core
  there_now =
      ap (λ (l : List PassState). slice_get l a.core.number) (passes_after key s now id a b at number words homes later)
      ∙ get_set_same now.core.passes a.core.number b.core a.core (its key s now id a b at number words homes later)

  module _ (own : b.core.own ≡ a.core.own) where
    own_stays : (k : ℕ) (u : PassState) → slice_get now.core.passes k ≡ Some u → own_placed now.core.history k ≡ own_placed later.core.history k
    own_stays k u here = elim (cases_eq k a.core.number) [
      | inl e ↦
          (let mine : u ≡ a.core = ap the (sym here ∙ ap (slice_get now.core.passes) e ∙ its key s now id a b at number words homes later) in
          sym ((good_of key s now).passes k u here).own ∙ ap (λ (v : PassState). v.own) mine ∙ sym own ∙ ((good_of key (later_by s words homes id b) later).passes k b.core (ap (slice_get later.core.passes) e ∙ there_now)).own)
      | inr n ↦
          (let there : slice_get later.core.passes k ≡ Some u = ap (λ (l : List PassState). slice_get l k) (passes_after key s now id a b at number words homes later) ∙ get_set_other now.core.passes a.core.number k b.core n ∙ here in
          sym ((good_of key s now).passes k u here).own ∙ ((good_of key (later_by s words homes id b) later).passes k u there).own)
    ]

    many : length later.core.passes ≡ length now.core.passes
    many = later.shows.passes ∙ sym now.shows.passes

    -- where the own entries of the pass stay, so does the history
    pub history_stays : later.core.history ≡ now.core.history
    history_stays =
        same_places later.core.history now.core.history
        (λ i e h. (let lt = ((good_of key (later_by s words homes id b) later).history.entries e (slice_get_in later.core.history i e h)).pass in let m = many in
        stands_in_other later.core.history now.core.history i e (sym (own_stays e.pass (pass_at now.core.passes e.pass) (pass_there now.core e.pass (omega arith)))) h))
        (λ i e h. (let lt = ((good_of key s now).history.entries e (slice_get_in now.core.history i e h)).pass in
        stands_in_other now.core.history later.core.history i e (own_stays e.pass (pass_at now.core.passes e.pass) (pass_there now.core e.pass lt)) h))

word_free : (t : StripeState) → word_of t ≡ 0 → IsUnlocked t
word_free t e = go t.keeper t.counted e
  where
    go : (x : Keeper) (counted : List ℕ) → writer_mark x + 65536 * length counted ≡ 0 → (has_writer x ≡ false) × (counted ≡ [])
    go (Home rows) [] e = (refl, refl)
    go (Home rows) (k ∷ counted) e = absurd (omega arith)
    go (Writer k) counted e = absurd (omega arith)

pub locks_are_events : LocksAreEvents
locks_are_events key s now id a b at words homes later p lt high free rows is = (
  allowed,
  steps_are_events key s now id a b at number words homes later (event.Lock a.core.number p) allowed
      (ap (λ (u : PassState). set now.core.passes a.core.number u) (sym (is ∙ λ i. locked (sym same_pass i) p (rows_are i)))),
)
  where
    k : ℕ
    k = a.core.number

    mine : slice_get now.core.passes a.core.number ≡ Some a.core
    mine = (now.views id (pass_view a) at).passes.0.0

    same_pass : pass_at now.core.passes a.core.number ≡ a.core
    same_pass = get_or_from_slice_get now.core.passes a.core.number a.core no_pass mine

    there : p < length now.core.stripes
    there = subst (λ n. p < n) (sym (good_of key s now).all_stripes) lt

    unlocked : IsUnlocked (stripe_at now.core.stripes p)
    unlocked = word_free (stripe_at now.core.stripes p) (sym (now.shows.words p lt) ∙ free)

    number : b.core.number ≡ a.core.number
    number = ap (λ (u : PassState). u.number) is

    own : b.core.own ≡ a.core.own
    own = ap (λ (u : PassState). u.own) is

    allowed : IsAllowed (compiled_by key) now.core (event.Lock a.core.number p)
    allowed = ((at_below now.core.passes a.core.number a.core mine, there), subst (λ (u : PassState). IsHigh u p) (sym same_pass) high, unlocked)

    held : In (hold p Exclusive rows) b.core.held
    held = subst (λ (u : PassState). In (hold p Exclusive rows) u.held) (sym is) (append_in_right (hold p Exclusive rows) a.core.held (hold p Exclusive rows ∷ []) (inl refl))

    rows_are : rows ≡ home_rows (stripe_at now.core.stripes p).keeper
    rows_are =
        ((good_of key (later_by s words homes id b) later).passes a.core.number b.core (there_now key s now id a b at number words homes later)).rows (hold p Exclusive rows) held
        ∙ ap (λ (l : List Entry). fragment_of (spec_by key) (replay (spec_by key) l) p) (history_stays key s now id a b at number words homes later own)
        ∙ sym (good_home (spec_by key) now.core.history (length now.core.passes) p (stripe_at now.core.stripes p).keeper unlocked.0 ((good_of key s now).stripes p there).keeper)
