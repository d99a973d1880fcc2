-- The history of which passes have these own entries.
use Rattle.std.specs.Prelude.{◌≡◌, ℕ, ◌<◌, List, [], Some, length, replicate}
use Rattle.rc_journal.specs.Imports.{flat_map, slice_get, In, Entry, Placed, own_placed}
use Rattle.rc_journal.specs.Merge.{with_all}

-- all of them, one pass after another
abbrev pub all_own : List (List Placed) → List Placed
all_own owns = flat_map (λ own. own) owns

-- the list that has each of them at its place
abbrev pub history_with : List (List Placed) → List Entry
history_with owns = with_all (replicate (length (all_own owns)) (record { pass = 0; nth = 0; steps = [] })) (all_own owns)

-- of the own entries of a history's passes it is that history
abbrev pub OwnMakeTheHistory : Type 0
OwnMakeTheHistory = (history : List Entry) (owns : List (List Placed)) → ((pass : ℕ) (own : List Placed) → slice_get owns pass ≡ Some own → own ≡ own_placed history pass)
    → ((e : Entry) → In e history → e.pass < length owns) → history_with owns ≡ history
