use Rattle.rc_tuple.specs.ColSetLaws.{within-masks, IsColSet-from_mask}
use Rattle.rc_tuple.proofs.col_set.ColSet.within.Goals as goal

pub returns-clause-found : goal.returns-clause-found
returns-clause-found c = rw (← c.self.view_is, ← c.other.view_is) (within-masks c.self.inside.mask c.other.inside.mask c.self.invariant c.other.invariant)

pub returns-clause-set : goal.returns-clause-set
returns-clause-set c = IsColSet-from_mask c.self.inside.mask c.args.self c.self.view_is
