use Rattle.rc_tuple.specs.ColSetLaws.{columns_of-with, IsColSet-columns_of}
use Rattle.rc_tuple.proofs.col_set.ColSet.with.Goals as goal

pub returns-clause-value : goal.returns-clause-value
returns-clause-value c = rw (← c.self.view_is) (columns_of-with c.self.inside.mask c.args.col c.requires)

pub returns-clause-set : goal.returns-clause-set
returns-clause-set c = IsColSet-columns_of _
