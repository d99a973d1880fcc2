use Rattle.rc_row.proofs.SeatStepLemmas.{commits_at}
use Rattle.rc_row.proofs.row.Row.commit_step.Goals as goal

pub fetch_add-requires : goal.fetch_add-requires
fetch_add-requires g c =
    commits_at c.self.inside c.args.self.now c.self.view_is c.self.invariant c.args.seat.now.id c.args.seat.now.me c.args.seat.now.table_id c.requires.row
    g.E.Carries.told g.E.Carries.entry c.requires.key c.requires.pass c.requires.allowed
