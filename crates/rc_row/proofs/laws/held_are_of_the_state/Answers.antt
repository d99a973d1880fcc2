use Rattle.rc_row.specs.ShownLaws.{held_of_the_state}
use Rattle.rc_row.proofs.laws.held_are_of_the_state.Goals as goal

pub returns : goal.returns
returns c = held_of_the_state
