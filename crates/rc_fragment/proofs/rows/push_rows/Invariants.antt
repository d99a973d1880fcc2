use Rattle.std.proofs.Common.{◌≡◌, ◌++◌, drop}
use Rattle.std.specs.FinMap as fin
use Rattle.rc_fragment.proofs.Imports.{now_in, rows_with}
use Rattle.rc_fragment.proofs.WalkLemmas.{flat}
use Rattle.rc_fragment.proofs.rows.push_rows.Given as goal

abbrev pub invariant-loop-row : goal.invariant-loop-row
invariant-loop-row l = record {
  rest : l.rest ≡ flat (drop l.row (fin.entries (now_in l.container)));
  rows : l.rows ++ rows_with l.shape l.source (drop l.row (fin.entries (now_in l.container))) ≡ l.fn.rows ++ rows_with l.shape l.source (fin.entries (now_in l.container));
}
