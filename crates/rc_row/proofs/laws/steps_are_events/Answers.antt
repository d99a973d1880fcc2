use Rattle.rc_row.specs.EventLaws.{steps_are_events}
use Rattle.rc_row.proofs.laws.steps_are_events.Goals as goal

pub returns : goal.returns
returns c = steps_are_events
