use Rattle.std.proofs.Common.{Some}
use Rattle.rc_row.proofs.row.Row.look.Given as goal

abbrev pub ghosts-look_step : goal.ghosts-look_step
ghosts-look_step a = record { key = Some a.self.now.key }
