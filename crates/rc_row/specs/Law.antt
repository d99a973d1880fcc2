-- The rule of the table: words, latches, homes and views show a run of the core, and the state that it leads to.
use Rattle.std.specs.Prelude.{◌≡◌, ℕ, suc, ◌+◌, ◌*◌, ◌<◌, ◌≤◌, ◌==◌, Bool, true, false, List, [], ◌∷◌, length, map, slice_index, get_or, Option, Some, None, All}
use Rattle.rc_row.specs.Imports.{slice_get, list_any, range_with_len, nat_cmp, has, In, IsRising, EdgeRow, stripe_total, Spec, edge_table, KeptRows, SpecWithPlans, IsCompiled, Entry, IsPrefix, CoreState, Keeper, Home, Writer, PassState, StripeState, MayGoOn, stripe_at, pass_at, shares_of, is_at, State}
use mathlib.Core.Option.{some, none}
use lib.ListN.{get_elem?}
use Rattle.rc_row.specs.declared.law.Key.{Key}
use Rattle.rc_row.specs.declared.law.Refusal.{Refusal}
use Rattle.rc_row.specs.declared.law.Standing.{Standing}
use Rattle.rc_row.specs.declared.law.View.{View}
use Rattle.rc_row.specs.declared.slot.Slot.{Slot as SlotDeclared}
use Rattle.rc_row.specs.declared.slot.Slot.TheVariants.{Empty, Apart, Handed}
use Rattle.rc_row.specs.Run.{RowState, RowStep, CanRun, after_run, at_first, last_of, refusals_in, row_state}
use Rattle.rc_row.specs.Standings.{resumed_standing, start}

-- ---- the key

abbrev pub compiled_by : Key → SpecWithPlans
compiled_by key = key.compiled.value

abbrev pub spec_by : Key → Spec
spec_by key = key.compiled.value.spec

-- the history from which the row goes on
abbrev pub history_by : Key → List Entry
history_by key = key.history.value

-- how many stripes there are
abbrev pub stripes_by : Key → ℕ
stripes_by key = stripe_total (spec_by key)

-- ---- words and slots

-- Words of stripes and latches stand 64 bytes apart, each in a line of its own. Word 0 is the commit word.
abbrev pub stripe_word : ℕ → ℕ
stripe_word p = 8 * suc p

-- the latch word of a stripe, where there are n stripes
abbrev pub latch_word : ℕ → ℕ → ℕ
latch_word n p = 8 * suc (n + p)

-- the writer's mark in a word: 0, or its number and one more
abbrev pub writer_mark : Keeper → ℕ
writer_mark (Home rows) = 0
writer_mark (Writer k) = suc k

-- the word of a stripe: its writer, and 2^16 times how many are counted in
abbrev pub word_of : StripeState → ℕ
word_of s = writer_mark s.keeper + 65536 * length s.counted

-- Slots of stripes stand four slots apart, so that no two share a cache line; the others have nothing, and no step takes them.
abbrev pub slot_place : ℕ → ℕ
slot_place p = 4 * p

-- Behind the slots of stripes, for which 1024 are kept, come the own slots of the pass 0, one for each stripe, then those of the pass 1, and so
-- on. Four slots lie between the last of a pass and the first of the next, so that no two passes share a cache line.
abbrev pub own_place : ℕ → ℕ → ℕ
own_place k p = 1024 + 260 * k + p

-- what a slot has: a fragment at rest, or nothing while a pass has it
abbrev pub Slot : Type 0
Slot = SlotDeclared

-- the fragment of the specification with these rows, as a slot keeps it
abbrev pub kept_of : Spec → List EdgeRow → KeptRows
kept_of spec rows = record { table = edge_table spec; rows = rows }

-- a fragment, to which pointers were handed out or not
abbrev pub kept_in : Bool → KeptRows → Slot
kept_in true keep = Handed keep
kept_in false keep = Apart keep

-- the slot of a stripe at home, with or without pointers handed out
abbrev pub lodged : Spec → Bool → List EdgeRow → Slot
lodged spec handed rows = kept_in handed (kept_of spec rows)

-- what a pass's own slot may have, of a stripe with these rows
abbrev pub IsOwn : Spec → Bool → List EdgeRow → Slot → Type 0
IsOwn spec handed rows Empty = Unit {0}
IsOwn spec handed rows (Apart kept) = ⊥
IsOwn spec handed rows (Handed kept) = (handed ≡ true) × (kept ≡ kept_of spec rows)

-- ---- views

-- a pass, which may have the latch of a stripe, and may just have come to share one
abbrev pub view_of : Standing → Option ℕ → Option ℕ → View
view_of s latch entering = record { passes = s ∷ []; latch = latch; entering = entering; told = 0; known = [] }

abbrev pub pass_view : Standing → View
pass_view s = view_of s None None

-- a note: no pass, the length of a history, and the histories that were told
abbrev pub note_view : ℕ → List (List Entry) → View
note_view n known = record { passes = []; latch = None; entering = None; told = n; known = known }

-- passes that have no seat of their own
abbrev pub passes_view : List Standing → View
passes_view passes = record { passes = passes; latch = None; entering = None; told = 0; known = [] }

abbrev pub first_of : List Standing → Standing
first_of [] = start 0
first_of (s ∷ passes) = s

abbrev pub standing_of : View → Standing
standing_of v = first_of v.passes

-- n passes from the number k on, as they go on from a history
abbrev pub starts : List Entry → ℕ → ℕ → List Standing
starts history k n = map (resumed_standing history) (range_with_len k n)

-- the view of the seat that makes all others
abbrev pub opener : Key → View
opener key = passes_view (starts (history_by key) 0 key.passes)

abbrev pub numbers_in : List Standing → List ℕ
numbers_in passes = map (λ s. s.core.number) passes

-- each pass of a view is the core's of its number, and this is its seat
abbrev pub AreSeatedAt : List PassState → (ℕ → ℕ) → ℕ → List Standing → Type 0
AreSeatedAt passes seat id [] = Unit {0}
AreSeatedAt passes seat id (s ∷ more) = ((slice_get passes s.core.number ≡ Some s.core) × (seat s.core.number ≡ id)) × AreSeatedAt passes seat id more

-- the latch words name the pass exactly at the latch that its view has; it shares that stripe, and wants nothing
pub record HasLatch (latches : List ℕ) (latch : Option ℕ) (u : PassState) : Type 0 where
  pub at : (p : ℕ) → is_at latch p ≡ (slice_index latches p == suc u.number)
  pub shares : (p : ℕ) → is_at latch p ≡ true → In p (shares_of u)
  pub idle : (p : ℕ) → is_at latch p ≡ true → u.wish ≡ None

abbrev pub HaveLatch : List ℕ → Option ℕ → List Standing → Type 0
HaveLatch latches latch [] = Unit {0}
HaveLatch latches latch (s ∷ more) = HasLatch latches latch s.core × HaveLatch latches latch more

-- each is a beginning of the history
abbrev pub AreKnown : List Entry → List (List Entry) → Type 0
AreKnown history known = All (λ earlier. IsPrefix earlier history) known

-- The refused steps of a pass are those of the run, and what it was told of are beginnings of the history.
pub record IsTold (history : List Entry) (refusals : List Refusal) (s : Standing) : Type 0 where
  pub count : s.refusals ≡ length refusals
  pub last : s.last_refusal ≡ last_of refusals
  pub known : AreKnown history s.known

abbrev pub AreTold : List Entry → (ℕ → List Refusal) → List Standing → Type 0
AreTold history refusals [] = Unit {0}
AreTold history refusals (s ∷ more) = IsTold history (refusals s.core.number) s × AreTold history refusals more

-- what the view of a seat says is so, of a state and of the refusals of each pass
pub record IsTrueView (now : RowState) (refusals : ℕ → List Refusal) (seat : ℕ → ℕ) (id : ℕ) (v : View) : Type 0 where
  pub passes : AreSeatedAt now.core.passes seat id v.passes
  pub rising : IsRising nat_cmp (numbers_in v.passes)
  pub latch : HaveLatch now.latches v.latch v.passes
  pub histories : AreTold now.core.history refusals v.passes
  pub told : v.told ≤ length now.core.history
  pub known : AreKnown now.core.history v.known

abbrev pub has_pass : List Standing → ℕ → Bool
has_pass passes k = list_any (λ s. s.core.number == k) passes

-- the seat of the pass k has it in its view
pub record HasSeat (views : List View) (seat : ℕ → ℕ) (k : ℕ) : Type 0 where
  pub view : View
  pub at : get_elem? views (seat k) ≡ some view
  pub has : has_pass view.passes k ≡ true

-- ---- the rule

-- what the slot of a stripe has: the stripe's rows where nobody writes it and its latch is free; else it is out
abbrev pub home_of : Spec → Keeper → Bool → Bool → mathlib.Core.Option.Option Slot
home_of spec (Home rows) handed true = some (lodged spec handed rows)
home_of spec (Home rows) handed false = none
home_of spec (Writer k) handed free = none

-- so has the slot of each stripe
abbrev pub HomesAre : Spec → List StripeState → List ℕ → List Bool → List (mathlib.Core.Option.Option Slot) → Type 0
HomesAre spec stripes latches handed homes =
    (p : ℕ) → p < length stripes → get_elem? homes (slot_place p) ≡ some (home_of spec (stripe_at stripes p).keeper (get_or handed p false) (slice_index latches p == 0))

-- What stands in the place of a pass's own slot. It is out while the pass shares the stripe, and while somebody writes it; else it has nothing,
-- or a pointer to the rows that lie at home.
abbrev pub IsOwnHome : Spec → Keeper → Bool → Bool → mathlib.Core.Option.Option (mathlib.Core.Option.Option Slot) → Type 0
IsOwnHome spec (Writer j) handed shares home = home ≡ some none
IsOwnHome spec (Home rows) handed true home = home ≡ some none
IsOwnHome spec (Home rows) handed false home = (x : Slot) × IsOwn spec handed rows x × (home ≡ some (some x))

-- so does each own slot
abbrev pub OwnsAre : Spec → CoreState → List Bool → List (mathlib.Core.Option.Option Slot) → Type 0
OwnsAre spec c handed homes =
    (k p : ℕ) → k < length c.passes → p < length c.stripes
    → IsOwnHome spec (stripe_at c.stripes p).keeper (get_or handed p false) (has (shares_of (pass_at c.passes k)) p) (get_elem? homes (own_place k p))

-- What a pass shares may have been handed out: so it can put its pointer into its own slot when it leaves. Not so of the stripe that it has
-- just entered, of which it has no pointer yet.
abbrev pub HasHanded : List Bool → Option ℕ → PassState → Type 0
HasHanded handed entering u = (q : ℕ) → In q (shares_of u) → is_at entering q ≡ false → get_or handed q false ≡ true

abbrev pub HaveHanded : List Bool → Option ℕ → List Standing → Type 0
HaveHanded handed entering [] = Unit {0}
HaveHanded handed entering (s ∷ more) = HasHanded handed entering s.core × HaveHanded handed entering more

-- words and homes show the state, with these latches, and where these are the stripes of which pointers may have been handed out
pub record Shows (key : Key) (core : CoreState) (latches : List ℕ) (handed : List Bool) (s : State Slot View) : Type 0 where
  pub wide : length s.words ≡ 8 * suc (stripes_by key + stripes_by key)
  pub commit : slice_index s.words 0 ≡ length core.history
  pub words : (p : ℕ) → p < stripes_by key → slice_index s.words (stripe_word p) ≡ word_of (stripe_at core.stripes p)
  pub latch_words : (p : ℕ) → p < stripes_by key → slice_index s.words (latch_word (stripes_by key) p) ≡ slice_index latches p
  pub latch_count : length latches ≡ stripes_by key
  pub slots : length s.homes ≡ 1024 + 260 * key.passes
  pub passes : length core.passes ≡ key.passes
  pub homes : HomesAre (spec_by key) core.stripes latches handed s.homes
  pub handed_count : length handed ≡ stripes_by key
  pub owns : OwnsAre (spec_by key) core handed s.homes

-- nothing has happened in the row but the history from which it goes on
abbrev pub at_first_by : Key → RowState
at_first_by key = at_first (compiled_by key) key.passes (history_by key)

-- The rule: there is a run of the row, from the history from which it goes on, that leads to a state which words, homes and views show, and whose refused steps are those that
-- the views count.
pub record IsKept (key : Key) (s : State Slot View) : Type 0 where
  pub compiled : IsCompiled (spec_by key) (compiled_by key).plans
  pub some_pass : 1 ≤ key.passes
  pub few_passes : key.passes ≤ 255
  pub before : MayGoOn (spec_by key) key.passes (history_by key)
  pub run : List RowStep
  pub steps : CanRun (compiled_by key) (at_first_by key) run
  pub core : CoreState
  pub latches : List ℕ
  pub reached : after_run (compiled_by key) (at_first_by key) run ≡ row_state core latches
  pub seat : ℕ → ℕ
  pub handed : List Bool
  pub shows : Shows key core latches handed s
  pub readers : (id : ℕ) (v : View) → get_elem? s.views id ≡ some v → HaveHanded handed v.entering v.passes
  pub named : (p : ℕ) → slice_index latches p ≤ length core.passes
  pub seated : (k : ℕ) → k < length core.passes → HasSeat s.views seat k
  pub views : (id : ℕ) (v : View) → get_elem? s.views id ≡ some v
      → IsTrueView (row_state core latches) (refusals_in (compiled_by key) (at_first_by key) run) seat id v
