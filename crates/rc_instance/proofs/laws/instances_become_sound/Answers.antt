use Rattle.rc_instance.specs.InstanceLaws.{made_law, released_law}
use Rattle.rc_instance.proofs.laws.instances_become_sound.Goals as goal

pub returns-clause-made : goal.returns-clause-made
returns-clause-made c = made_law

pub returns-clause-released : goal.returns-clause-released
returns-clause-released c = released_law
