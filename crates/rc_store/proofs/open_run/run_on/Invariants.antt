use Rattle.std.specs.Prelude.{Some}
use Rattle.rc_store.proofs.open_run.run_on.Given as goal

abbrev pub ghosts-run_lent : goal.ghosts-run_lent
ghosts-run_lent g a = record { lent = Some (record { row = a.row.now; begun = a.pass.now }) }
