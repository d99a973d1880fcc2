-- The takes of a group's locks, one after another, before the first of its plans. (PLDI 2012, two-phase locks.)
use Rattle.std.specs.Prelude.{◌≡◌, Bool, List}
use Rattle.rc_store.specs.Imports.{StripeLock, locks_of, AreAtRest, PassSeen, RowSeen}
use Rattle.rc_store.specs.Lending.{IsOnTheWay, IsUnrefused, held_stripes}

-- the pass has taken these locks, and changed nothing
pub record HasTakenLocks (waits : Bool) (row : RowSeen) (begun now : PassSeen) (taken : List StripeLock) : Type 0 where
  pub way : IsOnTheWay row begun now
  pub unrefused : IsUnrefused waits begun now
  pub locks : locks_of (held_stripes now.held) ≡ taken
  pub rest : AreAtRest now.held
