use Rattle.std.proofs.Common.{◌≡◌, ◌++◌, drop}
use Rattle.rc_fragment.proofs.Imports.{map, pair_of}
use Rattle.rc_fragment.proofs.WalkLemmas.{rows_walked}
use Rattle.rc_fragment.proofs.edge_rows.EdgeRows.all.Given as goal

abbrev pub invariant-loop-source : goal.invariant-loop-source
invariant-loop-source l = l.rows ++ rows_walked l.self.shape (map pair_of (drop l.source-index l.source-items)) ≡ rows_walked l.self.shape (map pair_of l.source-items)
