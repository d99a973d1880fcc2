use Rattle.rc_route.specs.LeastPathLaws.{least_paths_cost_least}
use Rattle.rc_route.proofs.laws.least_paths_cost_least.Goals as goal

pub returns : goal.returns
returns c = least_paths_cost_least
