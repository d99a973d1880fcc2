-- Where a held stripe is.
use Rattle.std.specs.Prelude.{◌≡◌, ℕ, suc, List, ◌∷◌, ◌++◌, length, take, drop}
use Rattle.rc_row.specs.Imports.{In, stripes_in}
use Rattle.rc_row.specs.HeldRows.{HeldRows}
use Rattle.rc_row.specs.Passes.{holds_taken}

-- the first that is held at the stripe p, with those before and after it
pub record IsHeldAt (held : List HeldRows) (p at : ℕ) : Type 0 where
  pub before : List HeldRows
  pub here : HeldRows
  pub after : List HeldRows
  pub is : held ≡ before ++ here ∷ after
  pub stripe : here.stripe ≡ p
  pub place : length before ≡ at
  pub took : take at held ≡ before
  pub left : drop (suc at) held ≡ after
  pub first : In p (stripes_in (holds_taken before)) → ⊥
