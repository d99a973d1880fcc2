-- What is seen of a fragment that a pass holds.
use Rattle.rc_row.specs.Imports.{ℕ, Mode, KeptRows, at_rest}
use Rattle.rc_row.specs.declared.held.HeldFragment.{HeldFragment}

-- a held stripe, how it is held, and its fragment as it is
abbrev pub HeldRows : Type 0
HeldRows = HeldFragment

-- a stripe just taken: no change is pending, and no room is promised
abbrev pub just_held : ℕ → Mode → KeptRows → HeldRows
just_held p mode kept = record { stripe = p; mode = mode; fragment = at_rest kept }
