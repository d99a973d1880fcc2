-- What a row keeps.
use Rattle.std.specs.Prelude.{◌≡◌, suc, ◌+◌, ◌*◌, ◌≤◌}
use Rattle.rc_plan.specs.Compiled.{IsCompiled}
use Rattle.rc_row.specs.declared.row.Row.TheInside.{Inside}
use Rattle.rc_row.specs.Law.{compiled_by, spec_by, stripes_by}
use Rattle.rc_row.specs.Passes.{RowSeen}

abbrev pub row_seen : Inside → RowSeen
row_seen a = record { table = a.table.shared.table_id; key = a.table.shared.key; keeping = a.keeping }

-- the table has the slots of stripes and those of passes, and the words of all stripes and latches
pub record IsWholeRow (a : Inside) : Type 0 where
  pub compiled : IsCompiled (spec_by a.table.shared.key) (compiled_by a.table.shared.key).plans
  pub slots : a.table.shared.table_id.slots ≡ 1024 + 260 * a.table.shared.key.passes
  pub words : a.table.shared.table_id.words ≡ 8 * suc (stripes_by a.table.shared.key + stripes_by a.table.shared.key)
  pub stripes : stripes_by a.table.shared.key ≤ 256
  pub some_pass : 1 ≤ a.table.shared.key.passes
  pub passes : a.table.shared.key.passes ≤ 255
