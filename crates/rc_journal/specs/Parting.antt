-- Parts to which the entries of a journal are moved.
use Rattle.std.specs.Prelude.{◌≡◌, ℕ, zero, suc, ◌≤◌, ◌-◌, List, [], ◌∷◌, ◌++◌, Some, length}
use Rattle.rc_journal.specs.Imports.{slice_get, Entry, Placed, own_placed, placed}
use Rattle.rc_journal.specs.PartEntries.{PartEntries}

-- each part is empty, and has room for the entries that the pass of its number has in the journal
abbrev pub HasRoomFor : List Entry → List PartEntries → Type 0
HasRoomFor journal parts = (pass : ℕ) (part : PartEntries) → slice_get parts pass ≡ Some part → (part.list ≡ []) × (length (own_placed journal pass) ≤ part.spare)

-- a part with one entry more
abbrev pub pushed : Placed → PartEntries → PartEntries
pushed w part = record { list = part.list ++ w ∷ []; spare = part.spare - 1 }

-- the part of this number with one entry more
abbrev pub pushed_at : ℕ → Placed → List PartEntries → List PartEntries
pushed_at n w [] = []
pushed_at zero w (part ∷ parts) = pushed w part ∷ parts
pushed_at (suc n) w (part ∷ parts) = part ∷ pushed_at n w parts

-- the entry with its place in the part of its pass
abbrev pub with_placed : ℕ → Entry → List PartEntries → List PartEntries
with_placed place entry parts = pushed_at entry.pass (placed place entry) parts
