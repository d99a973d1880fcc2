use Rattle.std.proofs.Common.{◌≡◌, List, length}
use Rattle.rc_fragment.proofs.Imports.{flat_map, chunks_exact_rest, chunks_exact_size, Values, HaveWidth}
use Rattle.rc_fragment.proofs.OverLemmas.{AreCut}
use Rattle.rc_fragment.proofs.rows.rows_over.Given as goal

abbrev pub invariant-loop-row : goal.invariant-loop-row
invariant-loop-row l = record {
  size : chunks_exact_size l.row-iterator ≡ length l.cols;
  cut : (lists : List Values) → l.values ≡ flat_map (λ s. s) lists → HaveWidth (length l.cols) lists → AreCut l.cols (chunks_exact_rest l.row-iterator) l.rows lists;
}
