use Rattle.rc_route.specs.PrunedWalkLaws.{walks_are_pruned}
use Rattle.rc_route.proofs.laws.walks_are_pruned.Goals as goal

pub returns : goal.returns
returns c = walks_are_pruned
