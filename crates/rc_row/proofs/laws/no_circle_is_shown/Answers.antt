use Rattle.rc_row.specs.ShownLaws.{no_circle_shown}
use Rattle.rc_row.proofs.laws.no_circle_is_shown.Goals as goal

pub returns : goal.returns
returns c = no_circle_shown
