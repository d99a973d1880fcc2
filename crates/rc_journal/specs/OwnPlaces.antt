-- What parts say of the history whose own entries they have.
use Rattle.std.specs.Prelude.{◌≡◌, ℕ, ◌<◌, List, length, Some}
use Rattle.rc_journal.specs.Imports.{slice_get, In, Entry, own_placed}
use Rattle.rc_journal.specs.PartEntries.{PartEntries}
use Rattle.rc_journal.specs.Merge.{AreByPass, AreNumbersBelow, ArePartsOf, IsMerged, places_of}

-- the places of all passes' own entries are those of the history, each once
abbrev pub OwnPlacesAreNumbers : Type 0
OwnPlacesAreNumbers = (history : List Entry) (parts : List PartEntries) → ArePartsOf parts history → AreNumbersBelow (length history) (places_of parts)

-- parts that are each of one pass, in the order of their places, are the own entries of their journal
abbrev pub MergedPartsAreOwn : Type 0
MergedPartsAreOwn = (parts : List PartEntries) (journal : List Entry) → AreByPass parts → IsMerged parts journal → ArePartsOf parts journal

-- parts that each have the own entries of the pass with their number are those of the history, where it has no other pass
abbrev pub OwnPartsAreOfHistory : Type 0
OwnPartsAreOfHistory = (history : List Entry) (parts : List PartEntries) → ((pass : ℕ) (part : PartEntries) → slice_get parts pass ≡ Some part → part.list ≡ own_placed history pass)
    → ((e : Entry) → In e history → e.pass < length parts) → ArePartsOf parts history
