-- Parts, and the journal that has their entries.
use Rattle.std.specs.Prelude.{◌≡◌, ◌↔◌, ℕ, ◌<◌, List, [], ◌∷◌, Some, All, AllPairs, length, map, slice_get, slice_set}
use Rattle.rc_journal.specs.Imports.{flat_map, range_with_len, In, AreDistinct, Entry, Placed, own_placed}
use Rattle.rc_journal.specs.PartEntries.{PartEntries}

-- the entries of all parts, with their places
abbrev pub placed_of : List PartEntries → List Placed
placed_of parts = flat_map (λ part. part.list) parts

abbrev pub places_of : List PartEntries → List ℕ
places_of parts = map (λ w. w.place) (placed_of parts)

-- they are the numbers below n, each once
pub record AreNumbersBelow (n : ℕ) (numbers : List ℕ) : Type 0 where
  pub each : (i : ℕ) → In i numbers ↔ (i < n)
  pub once : AreDistinct numbers

-- the parts have an entry with a place exactly where the journal has it at that place
abbrev pub IsMerged : List PartEntries → List Entry → Type 0
IsMerged parts journal = (w : Placed) → In w (placed_of parts) ↔ (slice_get journal w.place ≡ Some w.entry)

-- the parts are the own entries with their places of the passes 0, 1, 2 and so on of a history, which has no other pass
pub record ArePartsOf (parts : List PartEntries) (history : List Entry) : Type 0 where
  pub own : map (λ part. part.list) parts ≡ map (own_placed history) (range_with_len 0 (length parts))
  pub passes : All (λ e. e.pass < length parts) history

-- each part has entries of one pass alone, whose number is the part's, in the order of their places
abbrev pub AreByPass : List PartEntries → Type 0
AreByPass parts = (pass : ℕ) (part : PartEntries) → slice_get parts pass ≡ Some part
    → All (λ w. w.entry.pass ≡ pass) part.list × AllPairs (λ v w. v.place < w.place) part.list

-- a list of entries with some at their places
abbrev pub with_all : List Entry → List Placed → List Entry
with_all entries [] = entries
with_all entries (w ∷ more) = with_all (slice_set entries w.place w.entry) more
