use Rattle.rc_tuple.specs.ColSetLaws.{length-from_mask, IsColSet-from_mask}
use Rattle.rc_tuple.proofs.col_set.ColSet.len.Goals as goal

pub returns-clause-value : goal.returns-clause-value
returns-clause-value c = length-from_mask c.self.inside.mask c.args.self c.self.view_is c.self.invariant

pub returns-clause-set : goal.returns-clause-set
returns-clause-set c = IsColSet-from_mask c.self.inside.mask c.args.self c.self.view_is
