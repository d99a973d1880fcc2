use Rattle.rc_route.specs.PrunedWalkLaws.{walks_are_good}
use Rattle.rc_route.proofs.laws.walks_are_good.Goals as goal

pub returns : goal.returns
returns c = walks_are_good
