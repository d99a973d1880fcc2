use Rattle.rc_row.specs.ShownLaws.{one_state}
use Rattle.rc_row.proofs.laws.one_state_is_shown.Goals as goal

pub returns : goal.returns
returns c = one_state
