use Rattle.rc_text_laws.specs.AuditsLaws as laws
use Rattle.rc_text_laws.proofs.reports.groups_are_legal.Goals as goal

pub returns : goal.returns
returns c = laws.groups_are_legal
