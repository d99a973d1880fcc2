use Rattle.rc_text_laws.specs.AuditsLaws as laws
use Rattle.rc_text_laws.proofs.reports.runs_are_legal.Goals as goal

pub returns : goal.returns
returns c = laws.runs_are_legal
