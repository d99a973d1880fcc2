use Rattle.rc_row.specs.ShownLaws.{known_are_beginnings}
use Rattle.rc_row.proofs.laws.known_are_beginnings.Goals as goal

pub returns : goal.returns
returns c = known_are_beginnings
