use Rattle.rc_spec.specs.StripesLaws.{rows_fall_law}
use Rattle.rc_spec.proofs.laws.rows_fall_with_tuples.Goals as goal

pub returns : goal.returns
returns c = rows_fall_law
