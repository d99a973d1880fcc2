use Rattle.rc_spec.specs.ContentsLaws.{adequacy_law}
use Rattle.rc_spec.proofs.laws.adequacy_loses_no_tuple.Goals as goal

pub returns : goal.returns
returns c = adequacy_law
