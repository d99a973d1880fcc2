use Rattle.rc_route.specs.PrunedWalkLaws.{one_walk, has_walk}
use Rattle.rc_route.proofs.laws.one_pruned_walk.Goals as goal

pub returns-clause-one : goal.returns-clause-one
returns-clause-one c = one_walk

pub returns-clause-some : goal.returns-clause-some
returns-clause-some c = has_walk
