use Rattle.rc_text_laws.specs.RunsLaws as laws
use Rattle.rc_text_laws.proofs.reports.reports_tell_runs.Goals as goal

pub returns : goal.returns
returns c = laws.reports_tell_runs
