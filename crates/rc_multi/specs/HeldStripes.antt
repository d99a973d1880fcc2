-- What a holder holds, as the core has it.
use Rattle.rc_multi.specs.Imports.{List, map, HeldStripe, Hold, hold}

-- a held stripe with its rows as they were taken, and with those that it has now
abbrev pub hold_taken : HeldStripe → Hold
hold_taken h = hold h.stripe h.mode h.taken

abbrev pub hold_now : HeldStripe → Hold
hold_now h = hold h.stripe h.mode h.now

-- all of them
abbrev pub all_taken : List HeldStripe → List Hold
all_taken held = map hold_taken held

abbrev pub all_now : List HeldStripe → List Hold
all_now held = map hold_now held
