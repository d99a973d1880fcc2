use Rattle.rc_text_laws.specs.RunTextsLaws as laws
use Rattle.rc_text_laws.proofs.reports.printed_texts_have_one_history.Goals as goal

pub returns : goal.returns
returns c = laws.printed_texts_have_one_history
