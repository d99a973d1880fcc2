use Rattle.rc_route.specs.LeastPathLaws.{one_least_path}
use Rattle.rc_route.proofs.laws.one_least_path.Goals as goal

pub returns : goal.returns
returns c = one_least_path
