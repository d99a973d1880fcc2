use Rattle.rc_journal.specs.ByPassLaws as laws
use Rattle.rc_journal.proofs.laws.merged_parts_are_own.Goals as goal

pub returns : goal.returns
returns c = laws.merged_own
