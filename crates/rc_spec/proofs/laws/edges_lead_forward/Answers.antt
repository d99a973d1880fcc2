use Rattle.rc_spec.specs.OrderLaws.{edges_lead_forward}
use Rattle.rc_spec.proofs.laws.edges_lead_forward.Goals as goal

pub returns : goal.returns
returns c = edges_lead_forward
