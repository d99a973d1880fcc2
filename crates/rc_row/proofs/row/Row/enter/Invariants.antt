use Rattle.std.proofs.Common.{Some}
use Rattle.rc_row.proofs.row.Row.enter.Given as goal

abbrev pub ghosts-enter_step : goal.ghosts-enter_step
ghosts-enter_step a = record { key = Some a.self.now.key }
