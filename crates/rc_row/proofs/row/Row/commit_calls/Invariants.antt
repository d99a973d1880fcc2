use Rattle.rc_row.proofs.Imports.{Some, standing_of, next_of, with_replies}
use Rattle.rc_row.proofs.row.Row.commit_calls.Given as goal

abbrev pub ghosts-commit_next : goal.ghosts-commit_next
ghosts-commit_next a = record { entry = next_of (standing_of a.seat.now.me.0).core (with_replies a.calls.now a.replies.now); told = Some a.self.now.key }
