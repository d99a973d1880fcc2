-- What a store keeps.
use Rattle.std.specs.Prelude.{◌≡◌, ◌≤◌, ◌^◌}
use Rattle.rc_row.specs.Passes.{compiled_of}
use Rattle.rc_store.specs.declared.store.Store.TheInside.{Inside}
use Rattle.rc_store.specs.Store.{StoreSeen}

abbrev pub store_seen : {W : Type 0} → Inside W → StoreSeen
store_seen a = record { row = a.row; limit = a.limit }

-- the row is of the specification with its plans
pub record IsWholeStore {W : Type 0} (a : Inside W) : Type 0 where
  pub compiled : compiled_of a.row ≡ a.compiled
  pub small : a.limit ≤ 2 ^ 48
