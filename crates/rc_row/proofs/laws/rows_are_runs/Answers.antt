use Rattle.rc_row.specs.ShownLaws.{rows_are_runs}
use Rattle.rc_row.proofs.laws.rows_are_runs.Goals as goal

pub returns : goal.returns
returns c = rows_are_runs
