use Rattle.std.proofs.Common.{◌≡◌, ◌+◌, ◌-◌, ◌≤◌, length}
use Rattle.rc_tuple.proofs.Imports.{vec_len, vec_capacity, rank, merge, zip_below}
use Rattle.rc_tuple.proofs.tuple.put_columns.Given as goal

abbrev pub invariant-loop-col : goal.invariant-loop-col
invariant-loop-col l = record {
  items : l.pairs.items ≡ merge l.fn.pairs.items (zip_below l.cols l.vals l.col);
  place : l.place ≡ rank l.cols l.col;
  room : vec_len l.pairs + (length l.vals - l.place) ≤ vec_capacity l.pairs;
}
