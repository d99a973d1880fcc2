use Rattle.std.proofs.Common.{◌≡◌, ◌≤◌, take, length}
use Rattle.rc_tuple.proofs.Imports.{vec_len, vec_capacity, tuple_of}
use Rattle.rc_tuple.proofs.tuple.Tuple.refill.Given as goal

abbrev pub invariant-loop-place : goal.invariant-loop-place
invariant-loop-place l = record {
  items : l.self-inside.pairs.items ≡ tuple_of (take l.place l.cols) (take l.place l.vals);
  len : vec_len l.self-inside.pairs ≤ l.place;
  room : length l.cols ≤ vec_capacity l.self-inside.pairs;
}
