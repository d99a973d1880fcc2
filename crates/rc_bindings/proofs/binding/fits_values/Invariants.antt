use Rattle.std.proofs.Common.{◌≡◌, ◌≤◌, length, true}
use Rattle.rc_bindings.proofs.Imports.{columns_below, fits_all, pairs_below}
use Rattle.rc_bindings.proofs.binding.fits_values.Given as goal

abbrev pub invariant-loop-col : goal.invariant-loop-col
invariant-loop-col l = record {
  place : l.place ≡ length (columns_below l.cols l.col);
  low : l.place ≤ l.col;
  fit : fits_all l.held l.registers (pairs_below l.cols l.values l.col) ≡ true;
}
