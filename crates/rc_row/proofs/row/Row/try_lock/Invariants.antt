use Rattle.std.proofs.Common.{Some}
use Rattle.rc_row.proofs.row.Row.try_lock.Given as goal

abbrev pub ghosts-lock_step : goal.ghosts-lock_step
ghosts-lock_step a = record { key = Some a.self.now.key }
