use Rattle.rc_spec.specs.FragmentsLaws.{empty_law}
use Rattle.rc_spec.proofs.laws.empty_has_no_rows.Goals as goal

pub returns : goal.returns
returns c = empty_law
