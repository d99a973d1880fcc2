use Rattle.rc_tuple.specs.ColSetLaws.{columns_of-zero}
use Rattle.rc_tuple.proofs.col_set.ColSet.empty.Goals as goal

pub returns : goal.returns
returns c = columns_of-zero
