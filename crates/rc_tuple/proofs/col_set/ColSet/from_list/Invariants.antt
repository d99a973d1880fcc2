use Rattle.std.proofs.Common.{◌≡◌, take}
use Rattle.rc_tuple.proofs.Imports.{nat_cmp, gather, IsColSet}
use Rattle.rc_tuple.proofs.col_set.ColSet.from_list.Given as goal

abbrev pub invariant-loop-col : goal.invariant-loop-col
invariant-loop-col l = record { value : l.set ≡ gather nat_cmp (take l.col-index l.cols); set : IsColSet l.set }
