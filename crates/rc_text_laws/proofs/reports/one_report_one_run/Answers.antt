use Rattle.rc_text_laws.specs.RunsLaws as laws
use Rattle.rc_text_laws.proofs.reports.one_report_one_run.Goals as goal

pub returns : goal.returns
returns c = laws.one_report_one_run
