use Rattle.rc_route.specs.PathsLaws.{paths_are_good}
use Rattle.rc_route.proofs.laws.paths_are_good.Goals as goal

pub returns : goal.returns
returns c = paths_are_good
