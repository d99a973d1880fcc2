-- The rows of a container over a table.
use Rattle.std.specs.Prelude.{◌≡◌, Bool, Option, refl}
use Rattle.rc_maps.specs.Imports.{LendsSo, MutBor, Fml, RattleType, Coded, code_by, coded_bool, coded×, OnSome, Values, Counted, Rows, rows_code}
use Rattle.std.specs.FinMap as fin
use Rattle.rc_edges.specs.contracts.entry.Entry.{the_row as entry_row}

-- the rows that are kept, and whether only keys of one column are taken
pub record TableRows : Type 0 where
  pub one_column : Bool
  pub rows : Rows

-- no row
abbrev pub none_of : Bool → TableRows
none_of one = record { one_column = one; rows = fin.empty }

abbrev pub table_rows_code : Coded TableRows
table_rows_code =
    code_by (Bool × Rows) (coded× coded_bool rows_code) (λ k. (k.one_column, k.rows)) (λ p. record { one_column = p.0; rows = p.1 }) (λ _. refl)

-- the entry at the key ends as the last one written through r, and at `None` the table stays
abbrev pub lends_entry : (X : RattleType) → (X.Denot → Rows) → (X.Denot → Bool) → MutBor X.Denot → Values → Option (MutBor Counted) → Fml
lends_entry X entries one_column table key r = LendsSo X entry_row table r
    (λ new x. OnSome r ((entries new ≡ fin.insert (entries table.now) key x) × (one_column new ≡ one_column table.now))) (λ new. new ≡ table.now)
