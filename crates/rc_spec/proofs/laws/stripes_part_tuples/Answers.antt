use Rattle.rc_spec.specs.StripesLaws.{agreeing_law, one_class_law}
use Rattle.rc_spec.proofs.laws.stripes_part_tuples.Goals as goal

pub returns-clause-agreeing : goal.returns-clause-agreeing
returns-clause-agreeing c = agreeing_law

pub returns-clause-classes : goal.returns-clause-classes
returns-clause-classes c = one_class_law
