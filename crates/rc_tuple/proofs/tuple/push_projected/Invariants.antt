use Rattle.std.proofs.Common.{◌≡◌, ◌+◌, ◌≤◌, ◌++◌, take, drop, length}
use Rattle.rc_tuple.proofs.Imports.{vec_len, vec_capacity, project}
use Rattle.rc_tuple.proofs.tuple.push_projected.Given as goal

abbrev pub invariant-loop-pair : goal.invariant-loop-pair
invariant-loop-pair l = record {
  items : l.pairs.items ≡ l.fn.pairs.items ++ project l.cols (take l.pair-index l.others);
  len : vec_len l.pairs + length (drop l.pair-index l.others) ≤ vec_len l.fn.pairs + length l.others;
  capacity : vec_capacity l.pairs ≡ vec_capacity l.fn.pairs;
}
