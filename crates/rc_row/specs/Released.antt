-- What giving stripes back asks.
use Rattle.std.specs.Prelude.{◌≡◌, ℕ, List}
use Rattle.rc_row.specs.Imports.{In, Mode, FragmentRows}
use Rattle.rc_row.specs.HeldRows.{HeldRows}

-- the stripe is held in this mode
pub record IsHeldSo (held : List HeldRows) (stripe : ℕ) (mode : Mode) : Type 0 where
  pub here : HeldRows
  pub among : In here held
  pub stripe_is : here.stripe ≡ stripe
  pub mode_is : here.mode ≡ mode

-- its rows are what they were as taken
abbrev pub IsUnchanged : FragmentRows → Type 0
IsUnchanged f = f.now ≡ f.taken
