-- What a take makes of a pass, whether it waits or not.
use Rattle.std.specs.Prelude.{◌≡◌, ℕ, Bool, false, List}
use Rattle.rc_store.specs.Imports.{Mode, EdgeRow, HasWaited, PassSeen, RowSeen, spec_of, with_standing, with_taken, without_wish}

-- The pass waited for the stripe in the mode, and where nothing waits it is as before.
pub record HasWaitedIf (waits : Bool) (mode : Mode) (passes stripe : ℕ) (old new : PassSeen) : Type 0 where
  pub waited : HasWaited mode passes stripe old new
  pub at_once : waits ≡ false → new ≡ old

-- So the pass waited, and then took the stripe with the rows that lay there.
pub record HasTakenStripe (waits : Bool) (row : RowSeen) (mode : Mode) (stripe : ℕ) (old new : PassSeen) : Type 0 where
  pub before : PassSeen
  pub rows : List EdgeRow
  pub waits_so : HasWaitedIf waits mode row.key.passes stripe old before
  pub is : new ≡ with_taken (spec_of row) mode stripe rows before

-- Or it waited, and then memory was wanted, and it wants the stripe no more.
pub record HasGivenUp (waits : Bool) (row : RowSeen) (mode : Mode) (stripe : ℕ) (old new : PassSeen) : Type 0 where
  pub before : PassSeen
  pub waits_so : HasWaitedIf waits mode row.key.passes stripe old before
  pub is : new ≡ with_standing (without_wish before.standing) before
