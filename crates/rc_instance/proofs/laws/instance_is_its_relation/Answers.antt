use Rattle.rc_instance.specs.RelationLaws.{instance_law}
use Rattle.rc_instance.proofs.laws.instance_is_its_relation.Goals as goal

pub returns : goal.returns
returns c = instance_law
