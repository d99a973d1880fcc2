use Rattle.rc_text_laws.specs.AuditsLaws as laws
use Rattle.rc_text_laws.proofs.reports.run_lines_are_written.Goals as goal

pub returns : goal.returns
returns c = laws.run_lines_are_written
