use Rattle.rc_row.specs.EventLaws.{locks_are_events}
use Rattle.rc_row.proofs.laws.locks_are_events.Goals as goal

pub returns : goal.returns
returns c = locks_are_events
