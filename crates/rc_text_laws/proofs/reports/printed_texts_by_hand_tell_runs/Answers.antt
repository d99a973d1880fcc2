use Rattle.rc_text_laws.specs.RunTextsLaws as laws
use Rattle.rc_text_laws.proofs.reports.printed_texts_by_hand_tell_runs.Goals as goal

pub returns-clause-runs : goal.returns-clause-runs
returns-clause-runs c = laws.printed_texts_tell_runs_by_hand

pub returns-clause-texts : goal.returns-clause-texts
returns-clause-texts c = laws.printed_texts_by_hand_have_one_history
