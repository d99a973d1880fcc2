use Rattle.std.proofs.Common.{◌≡◌, drop, map}
use Rattle.rc_maps.proofs.Imports.{pair_of, IsCopied}
use Rattle.rc_maps.proofs.table_edge.copy_of.Given as goal

abbrev pub invariant-loop-keyed : goal.invariant-loop-keyed
invariant-loop-keyed g l =
    IsCopied (map pair_of l.keyed-items) (drop l.keyed-index (map pair_of l.keyed-items)) (g.T.EntryTable.entries l.copy)
    × (g.T.EntryTable.one_column l.copy ≡ g.T.EntryTable.one_column l.table)
