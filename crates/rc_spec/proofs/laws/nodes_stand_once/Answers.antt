use Rattle.rc_spec.specs.OrderLaws.{nodes_stand_once}
use Rattle.rc_spec.proofs.laws.nodes_stand_once.Goals as goal

pub returns : goal.returns
returns c = nodes_stand_once
