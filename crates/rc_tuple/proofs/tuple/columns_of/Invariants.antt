use Rattle.std.proofs.Common.{◌≡◌, take}
use Rattle.rc_tuple.proofs.Imports.{nat_cmp, gather, cols_of}
use Rattle.rc_tuple.proofs.tuple.columns_of.Given as goal

abbrev pub invariant-loop-pair : goal.invariant-loop-pair
invariant-loop-pair l = l.cols ≡ gather nat_cmp (cols_of (take l.pair-index l.pairs))
