use Rattle.rc_text_laws.specs.TextsLaws as laws
use Rattle.rc_text_laws.proofs.reports.one_text_one_history.Goals as goal

pub returns : goal.returns
returns c = laws.one_text_one_history
