use Rattle.rc_text_laws.specs.AuditsLaws as laws
use Rattle.rc_text_laws.proofs.reports.audits_are_one.Goals as goal

pub returns : goal.returns
returns c = laws.audits_are_one
