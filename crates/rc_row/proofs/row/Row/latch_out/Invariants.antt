use Rattle.std.proofs.Common.{Some}
use Rattle.rc_row.proofs.row.Row.latch_out.Given as goal

abbrev pub ghosts-latch_step : goal.ghosts-latch_step
ghosts-latch_step a = record { key = Some a.self.now.key }
