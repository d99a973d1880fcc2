-- What each step on the table tells the pass that makes it.
use Rattle.std.specs.Prelude.{◌≡◌, ◌≢◌, ℕ, not, ◌*◌, ◌-◌, ◌/◌, ◌%◌, ◌<◌, ◌^◌, ◌==◌, if◌then◌else◌, Bool, false, true, suc, drop, List, [], ◌∷◌, ◌++◌, length, Option, Some, None, MatchBool}
use Rattle.rc_row.specs.Imports.{EdgeRow, Found, Pass, Readers, Latch, Shared, Exclusive, Entry, PassState, is_at, IsOfHistory, locked, blocked, shared, back, released, rows_of_hold, Me, Step, rest}
use Rattle.rc_row.specs.declared.law.Key.{Key}
use Rattle.rc_row.specs.declared.law.View.{View}
use Rattle.rc_row.specs.Standings.{with_core, refused, turned_by, latched_out, after_entry, after_look, KeepsOut, IsAtHistory, HaveOneRelation}
use Rattle.rc_row.specs.declared.slot.Slot.TheVariants.{Empty, Apart, Handed}
use Rattle.rc_row.specs.Own.{own_hands}
use Rattle.rc_row.specs.Law.{IsOwn, Slot, lodged, own_place, spec_by, compiled_by, stripes_by, slot_place, stripe_word, latch_word, standing_of, pass_view, view_of}

-- a seat, as it is seen: its view, and the slots that it has out
abbrev Who : Type 0
Who = Me Slot View

-- what the word of a stripe that isn't free says: its writer, or how many readers are counted in
abbrev pub found_in_word : ℕ → Found
found_in_word word = if word % 65536 == 0 then Readers (word / 65536) else Pass (word % 65536 - 1)

-- what the word of a latch says that is taken
abbrev pub found_in_latch : ℕ → Found
found_in_latch word = Latch (word - 1)

-- ---- lock and unlock

-- The pass writes the stripe p, and has its slot with the rows that lay home, and the own slots of all passes, which are empty where no
-- pointer was handed out.
pub record HasLocked (key : Key) (m : Who) (p : ℕ) (m' : Who) : Type 0 where
  pub rows : List EdgeRow
  pub handed : Bool
  pub owns : ℕ → Slot
  pub empty : handed ≡ false → (j : ℕ) → j < key.passes → owns j ≡ Empty
  pub view : m'.0 ≡ pass_view (with_core (standing_of m.0) (locked (standing_of m.0).core p rows))
  pub slots : m'.1 ≡ (slot_place p, lodged (spec_by key) handed rows) ∷ own_hands key.passes p owns ++ m.1
  pub one : HaveOneRelation (spec_by key) (locked (standing_of m.0).core p rows).held

-- somebody writes it, or is counted in
pub record IsLockedOut (key : Key) (m : Who) (p found : ℕ) (m' : Who) : Type 0 where
  pub keeps_out : KeepsOut Exclusive key.passes (standing_of m.0).core.number (found_in_word found)
  pub view : m'.0 ≡ pass_view (refused Exclusive (standing_of m.0) p (found_in_word found) (blocked (standing_of m.0).core p) (standing_of m.0).core.held)
  pub slots : m'.1 ≡ m.1

abbrev pub LocksOrNot : Key → Who → ℕ → ℕ → Who → Type 0
LocksOrNot key m p found m' = MatchBool (found == 0) (HasLocked key m p m') (IsLockedOut key m p found m')

abbrev pub ToldAtLock : Option Key → Step Slot → Who → ℕ → Who → Type 0
ToldAtLock None st m found m' = Unit {0}
ToldAtLock (Some key) st m found m' = (p : ℕ) → st.word ≡ stripe_word p → LocksOrNot key m p found m'

-- the pass holds the stripe p no more, and its slot and the own slots of all n passes are home
abbrev pub HasUnlocked : ℕ → Who → ℕ → Who → Type 0
HasUnlocked n m p m' = (m'.0 ≡ pass_view (with_core (standing_of m.0) (released (standing_of m.0).core p))) × (m'.1 ≡ drop (suc n) m.1)

-- how many passes there are, by the number of slots
abbrev pub passes_in : ℕ → ℕ
passes_in slots = (slots - 1024) / 260

abbrev pub ToldAtUnlock : Step Slot → Who → ℕ → Who → Type 0
ToldAtUnlock st m found m' = (p : ℕ) → st.word ≡ stripe_word p → HasUnlocked (passes_in st.slots) m p m'

-- ---- readers

-- what a pass still lacks that found this in its own slot: a pointer to the fragment of the stripe
abbrev pub lacking : ℕ → Slot → Option ℕ
lacking p Empty = Some p
lacking p (Apart kept) = Some p
lacking p (Handed kept) = None

-- The pass shares the stripe, whose rows stay as long as it does, and has its own slot with nothing or a pointer to them.
pub record HasEntered (key : Key) (m : Who) (p : ℕ) (m' : Who) : Type 0 where
  pub rows : List EdgeRow
  pub own : Slot
  pub is_own : IsOwn (spec_by key) true rows own
  pub view : m'.0 ≡ view_of (with_core (standing_of m.0) (shared (standing_of m.0).core p rows)) None (lacking p own)
  pub slots : m'.1 ≡ (own_place (standing_of m.0).core.number p, own) ∷ m.1
  pub one : HaveOneRelation (spec_by key) (shared (standing_of m.0).core p rows).held

-- a writer was found, and the pass turns back
pub record HasTurned (key : Key) (m : Who) (p found : ℕ) (m' : Who) : Type 0 where
  pub keeps_out : KeepsOut Shared key.passes (standing_of m.0).core.number (found_in_word found)
  pub view : m'.0 ≡ pass_view (turned_by (standing_of m.0) p (found_in_word found))
  pub slots : m'.1 ≡ m.1

abbrev pub EntersOrTurns : Key → Who → ℕ → ℕ → Who → Type 0
EntersOrTurns key m p found m' = MatchBool (found % 65536 == 0) (HasEntered key m p m') (HasTurned key m p found m')

abbrev pub ToldAtEnter : Option Key → Step Slot → Who → ℕ → Who → Type 0
ToldAtEnter None st m found m' = Unit {0}
ToldAtEnter (Some key) st m found m' = (p : ℕ) → st.word ≡ stripe_word p → EntersOrTurns key m p found m'

-- the pass that turned back is counted out
abbrev pub IsBack : Who → Who → Type 0
IsBack m m' = (m'.0 ≡ pass_view (with_core (standing_of m.0) (back (standing_of m.0).core))) × (m'.1 ≡ m.1)

abbrev pub ToldAtBack : Step Slot → Who → ℕ → Who → Type 0
ToldAtBack st m found m' = IsBack m m'

-- A pass may leave the stripe p with nothing in its own slot, or with a pointer to the rows that it shares, where it doesn't lack one. It
-- lacks no pointer to another.
pub record MayLeave (key : Key) (u : PassState) (p : ℕ) (lacks : Option ℕ) (slots : List (ℕ × Slot)) : Type 0 where
  pub only : (q : ℕ) → q ≢ p → is_at lacks q ≡ false
  pub own : Slot
  pub front : slots ≡ (own_place u.number p, own) ∷ rest slots
  pub is_own : IsOwn (spec_by key) (not (is_at lacks p)) (rows_of_hold u.held p) own

-- the pass shares the stripe p no more, and its own slot is home
abbrev pub HasLeft : Who → ℕ → Who → Type 0
HasLeft m p m' = (m'.0 ≡ pass_view (with_core (standing_of m.0) (released (standing_of m.0).core p))) × (m'.1 ≡ rest m.1)

abbrev pub ToldAtLeave : Step Slot → Who → ℕ → Who → Type 0
ToldAtLeave st m found m' = (p : ℕ) → st.word ≡ stripe_word p → HasLeft m p m'

-- ---- latches

-- the latch is the pass's, with the slot and the rows with which it shares the stripe
pub record HasLatched (key : Key) (m : Who) (p : ℕ) (m' : Who) : Type 0 where
  pub handed : Bool
  pub view : m'.0 ≡ view_of (standing_of m.0) (Some p) (Some p)
  pub slots : m'.1 ≡ (slot_place p, lodged (spec_by key) handed (rows_of_hold (standing_of m.0).core.held p)) ∷ m.1

-- another pass has it
pub record IsLatchedOut (key : Key) (m : Who) (p found : ℕ) (m' : Who) : Type 0 where
  pub keeps_out : KeepsOut Shared key.passes (standing_of m.0).core.number (found_in_latch found)
  pub view : m'.0 ≡ view_of (latched_out (standing_of m.0) p (found_in_latch found)) None (Some p)
  pub slots : m'.1 ≡ m.1

abbrev pub LatchesOrNot : Key → Who → ℕ → ℕ → Who → Type 0
LatchesOrNot key m p found m' = MatchBool (found == 0) (HasLatched key m p m') (IsLatchedOut key m p found m')

abbrev pub ToldAtLatch : Option Key → Step Slot → Who → ℕ → Who → Type 0
ToldAtLatch None st m found m' = Unit {0}
ToldAtLatch (Some key) st m found m' = (p : ℕ) → st.word ≡ latch_word (stripes_by key) p → LatchesOrNot key m p found m'

-- the latch is free, and the slot home, of which pointers are handed out: so the pass has its own
abbrev pub HasUnlatched : Who → Who → Type 0
HasUnlatched m m' = (m'.0 ≡ pass_view (standing_of m.0)) × (m'.1 ≡ rest m.1)

abbrev pub ToldAtUnlatch : Step Slot → Who → ℕ → Who → Type 0
ToldAtUnlatch st m found m' = HasUnlatched m m'

-- ---- commit

-- the entry stands behind the history of this moment, whose length was found
pub record HasCommitted (key : Key) (e : Entry) (m : Who) (found : ℕ) (m' : Who) : Type 0 where
  pub before : List Entry
  pub place : found ≡ length before
  pub small : found < 255 * 2 ^ 48
  pub at : IsAtHistory (spec_by key) key.passes before (standing_of m.0)
  pub after : IsOfHistory (spec_by key) key.passes (before ++ e ∷ []) (after_entry (compiled_by key) before e (standing_of m.0)).core
  pub one : HaveOneRelation (spec_by key) (after_entry (compiled_by key) before e (standing_of m.0)).core.held
  pub view : m'.0 ≡ pass_view (after_entry (compiled_by key) before e (standing_of m.0))
  pub slots : m'.1 ≡ m.1

abbrev pub ToldAtCommit : Option Key → Entry → Step Slot → Who → ℕ → Who → Type 0
ToldAtCommit None e st m found m' = Unit {0}
ToldAtCommit (Some key) e st m found m' = HasCommitted key e m found m'

-- ---- looks

-- the history of this moment is as long as was found, and the pass has seen all of it
pub record HasLooked (key : Key) (m : Who) (found : ℕ) (m' : Who) : Type 0 where
  pub history : List Entry
  pub long : found ≡ length history
  pub at : IsAtHistory (spec_by key) key.passes history (standing_of m.0)
  pub view : m'.0 ≡ pass_view (after_look history (standing_of m.0))
  pub slots : m'.1 ≡ m.1

abbrev pub ToldAtLook : Option Key → Step Slot → Who → ℕ → Who → Type 0
ToldAtLook None st m found m' = Unit {0}
ToldAtLook (Some key) st m found m' = HasLooked key m found m'
