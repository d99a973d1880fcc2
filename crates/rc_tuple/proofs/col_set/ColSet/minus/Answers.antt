use Rattle.rc_tuple.proofs.Imports.{arith, columns_of-minus, IsColSet-columns_of}
use Rattle.rc_tuple.proofs.col_set.ColSet.minus.Goals as goal

pub returns-clause-value : goal.returns-clause-value
returns-clause-value c = rw (← c.self.view_is, ← c.other.view_is) (columns_of-minus c.self.inside.mask c.other.inside.mask (omega arith))

pub returns-clause-set : goal.returns-clause-set
returns-clause-set c = IsColSet-columns_of _
