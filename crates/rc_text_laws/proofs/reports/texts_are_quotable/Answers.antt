use Rattle.rc_text_laws.specs.QuotableLaws as laws
use Rattle.rc_text_laws.proofs.reports.texts_are_quotable.Goals as goal

pub returns : goal.returns
returns c = laws.texts_are_quotable
