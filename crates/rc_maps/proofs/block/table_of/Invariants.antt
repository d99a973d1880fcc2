use Rattle.std.proofs.Common.{◌≡◌, drop, true}
use Rattle.rc_maps.proofs.Imports.{items_of, entries_of, has_one_column, IsCopied}
use Rattle.rc_maps.proofs.block.table_of.Given as goal

abbrev pub invariant-loop-row : goal.invariant-loop-row
invariant-loop-row g l = record {
  copied : IsCopied (items_of l.rows) (items_of (drop l.row-index l.rows)) (entries_of l.table);
  width : has_one_column l.table ≡ true;
}
