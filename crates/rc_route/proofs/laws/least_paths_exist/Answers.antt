use Rattle.rc_route.specs.LeastPathLaws.{least_paths_exist}
use Rattle.rc_route.proofs.laws.least_paths_exist.Goals as goal

pub returns : goal.returns
returns c = least_paths_exist
