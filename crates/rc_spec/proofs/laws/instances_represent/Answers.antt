use Rattle.rc_spec.specs.FragmentsLaws.{instances_law}
use Rattle.rc_spec.proofs.laws.instances_represent.Goals as goal

pub returns : goal.returns
returns c = instances_law
