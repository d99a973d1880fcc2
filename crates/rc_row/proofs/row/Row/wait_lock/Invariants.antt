use Rattle.rc_row.proofs.Imports.{Exclusive, HasWaited, IsPassOf}
use Rattle.rc_row.proofs.row.Row.wait_lock.Given as goal

abbrev pub invariant-loop : goal.invariant-loop
invariant-loop g l = IsPassOf l.self l.pass × HasWaited Exclusive l.self.key.passes l.stripe l.fn.pass l.pass
