use Rattle.rc_route.specs.PrunedWalkLaws.{walks_stay}
use Rattle.rc_route.proofs.laws.walks_stay.Goals as goal

pub returns : goal.returns
returns c = walks_stay
