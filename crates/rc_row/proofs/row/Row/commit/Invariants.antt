use Rattle.std.proofs.Common.{Some}
use Rattle.rc_row.proofs.row.Row.commit.Given as goal

abbrev pub ghosts-commit_entry : goal.ghosts-commit_entry
ghosts-commit_entry a = record { entry = a.entry.now; told = Some a.self.now.key }
