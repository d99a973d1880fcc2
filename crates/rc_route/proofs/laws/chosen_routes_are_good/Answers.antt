use Rattle.rc_route.specs.LeastPathLaws.{chosen_routes_are_good}
use Rattle.rc_route.proofs.laws.chosen_routes_are_good.Goals as goal

pub returns : goal.returns
returns c = chosen_routes_are_good
