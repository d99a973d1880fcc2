use Rattle.rc_route.specs.LeastPathLaws.{one_chosen_route, has_chosen_route}
use Rattle.rc_route.proofs.laws.one_chosen_route.Goals as goal

pub returns-clause-one : goal.returns-clause-one
returns-clause-one c = one_chosen_route

pub returns-clause-some : goal.returns-clause-some
returns-clause-some c = has_chosen_route
