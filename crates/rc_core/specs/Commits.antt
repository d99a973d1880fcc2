-- What the test of a commit answers.
use Rattle.std.specs.Prelude.{◌≡◌, ℕ, ◌+◌, ◌<◌, ◌^◌, ◌==◌, ◌&&◌, Bool, true, false, List, length}
use Rattle.rc_core.specs.Imports.{list_any, has, Pairs, IsRelation, Satisfies, Mode, Shared, Exclusive, Spec, all_columns, EdgeRow, rows_on, Statement, Lock, StripeLock, band}

-- the rows are those of a relation on the stripes, which stays small for so many calls more
pub record AreOf (spec : Spec) (stripes : List ℕ) (calls : ℕ) (found : List EdgeRow) : Type 0 where
  pub relation : List Pairs
  pub is_relation : IsRelation (all_columns spec) relation
  pub satisfies : Satisfies relation spec.deps
  pub few : length relation + calls < 2 ^ 63
  pub rows : found ≡ rows_on spec relation stripes

-- ---- tests

abbrev pub suffices : Mode → Mode → Bool
suffices Exclusive wanted = true
suffices Shared Shared = true
suffices Shared Exclusive = false

abbrev pub is_held : List StripeLock → StripeLock → Bool
is_held held lock = list_any (λ l. l.0 == lock.0 && suffices l.1 lock.1) held

abbrev pub locks_class_of : Spec → ℕ → Statement → Bool
locks_class_of spec p (Lock c which mode) = has (band spec c) p
locks_class_of spec p _ = false
