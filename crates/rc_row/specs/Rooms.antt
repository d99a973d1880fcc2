-- Room for what passes may hold, and the slots of a row before its first step.
use Rattle.std.specs.Prelude.{◌≡◌, ℕ, ◌+◌, ◌*◌, ◌<◌, ◌≤◌, List, [], ◌∷◌, All, length, vec_capacity}
use mathlib.Core.Option.{some}
use lib.ListN.{get_elem?}
use Rattle.rc_row.specs.Imports.{Spec, fragment_of, KeptRows, Entry, replay, Vec}
use Rattle.rc_row.specs.declared.held.HeldFragment.{HeldFragment}
use Rattle.rc_row.specs.declared.slot.Slot.TheVariants.{Apart, Empty}
use Rattle.rc_row.specs.Law.{Slot, kept_of, own_place, slot_place}

-- each is empty, and has room for so many
abbrev pub AreRooms : ℕ → List (Vec HeldFragment) → Type 0
AreRooms n rooms = All (λ room. (room.items ≡ []) × (n ≤ vec_capacity room)) rooms

-- the slot of a stripe, with those that lie between it and the next
abbrev pub spaced : KeptRows → List Slot
spaced keep = Apart keep ∷ Empty ∷ Empty ∷ Empty ∷ []

-- each of n stripes has a slot with the rows that the history leaves on it, and the slots of so many passes are empty
pub record AreFirstSlots (spec : Spec) (history : List Entry) (n passes : ℕ) (slots : List Slot) : Type 0 where
  pub count : length slots ≡ 1024 + 260 * passes
  pub rows : (p : ℕ) → p < n → get_elem? slots (slot_place p) ≡ some (Apart (kept_of spec (fragment_of spec (replay spec history) p)))
  pub empty : (k p : ℕ) → k < passes → p < n → get_elem? slots (own_place k p) ≡ some Empty
