use Rattle.rc_journal.specs.HistoryWithLaws as laws
use Rattle.rc_journal.proofs.laws.own_entries_make_the_history.Goals as goal

pub returns : goal.returns
returns c = laws.own_make_the_history
