-- What a part has.
use Rattle.rc_journal.specs.Imports.{ℕ, List, Placed}

-- entries with their places, and how many more there is room for
pub record PartEntries : Type 0 where
  pub list : List Placed
  pub spare : ℕ
