use Rattle.rc_spec.specs.FragmentsLaws.{stripes_law}
use Rattle.rc_spec.proofs.laws.stripes_hold_all.Goals as goal

pub returns : goal.returns
returns c = stripes_law
